-- Bytes that stand in a document from one place to another: how such parts join and come apart.
use Prim.Native.Nat.{ℕ, ◌+◌, ◌<◌, ◌≤◌}
use mathlib.Core.Path.{◌≡◌, refl, sym, ap, ◌∙◌}
use mathlib.Core.List.{List, [], ◌∷◌, ◌++◌, append_assoc}
use native.Mathlib.Omega.{arith}
use native.Mathlib.Numerals.{add-one}
use lib.ListN.{length, drop, get_or, length-append}
use lib.Seq.{drop-cons, drop-drop, drop-append_seam, drop-append-add}

pub record At (s : List ℕ) (at : ℕ) (bs : List ℕ) (n : ℕ) : Type 0 where
  pub end : n ≡ at + length bs
  pub fits : n ≤ length s
  pub bytes : drop at s ≡ bs ++ drop n s

module _ {s : List ℕ} where
  pub at_join : {a b c : ℕ} {xs ys : List ℕ} → At s a xs b → At s b ys c → At s a (xs ++ ys) c
  at_join {a} {b} {c} {xs} {ys} h k = record {
    end = omega (arith, h.end, k.end, length-append xs ys);
    fits = k.fits;
    bytes = h.bytes ∙ ap (λ (l : List ℕ). xs ++ l) k.bytes ∙ sym (append_assoc xs ys (drop c s));
  }

  pub at_split : {a c : ℕ} (xs ys : List ℕ) → At s a (xs ++ ys) c → At s a xs (a + length xs) × At s (a + length xs) ys c
  at_split {a} {c} xs ys h =
      let l = length-append xs ys in
      let d : drop (a + length xs) s ≡ ys ++ drop c s = sym (drop-drop (length xs) a s) ∙ ap (drop (length xs)) (h.bytes ∙ append_assoc xs ys (drop c s)) ∙ drop-append_seam xs (ys ++ drop c s) in (
        record { end = refl; fits = omega (arith, h.end, h.fits); bytes = h.bytes ∙ append_assoc xs ys (drop c s) ∙ ap (λ (z : List ℕ). xs ++ z) (sym d) },
        record { end = omega (arith, h.end); fits = h.fits; bytes = d },
      )

  pub at_nil : {a : ℕ} → a ≤ length s → At s a [] a
  at_nil h = record { end = omega arith; fits = h; bytes = refl }

  pub at_byte : (a : ℕ) → a < length s → At s a (get_or s a 0 ∷ []) (a + 1)
  at_byte a h = record { end = refl; fits = omega arith; bytes = rw add-one (drop-cons s a 0 h) }

  -- the first byte
  pub at_first : {a n b : ℕ} {bs : List ℕ} → At s a (b ∷ bs) n → (a < length s) × (get_or s a 0 ≡ b)
  at_first {a} {n} {b} {bs} h =
      let l : a < length s = omega (arith, h.end, h.fits) in
      (l, ap (λ (z : List ℕ). get_or z 0 0) (sym (drop-cons s a 0 l) ∙ h.bytes))

-- bytes between any others
pub at_here : (p bs q : List ℕ) → At (p ++ (bs ++ q)) (length p) bs (length p + length bs)
at_here p bs q = record {
  end = refl;
  fits = omega (arith, length-append p (bs ++ q), length-append bs q);
  bytes = drop-append_seam p (bs ++ q) ∙ ap (λ (z : List ℕ). bs ++ z) (sym (drop-append-add p (bs ++ q) (length bs) ∙ drop-append_seam bs q));
}
