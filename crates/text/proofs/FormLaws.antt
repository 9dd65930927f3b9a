-- What each byte of a form stands for.
use Prim.Native.Nat.{ℕ, suc, ◌+◌, ◌-◌, ◌<◌, ◌≤◌}
use native.Mathlib.Omega.{arith}
use native.Mathlib.Numerals.{add-one}
use mathlib.Core.Path.{◌≡◌, refl, sym, ap, ◌∙◌}
use mathlib.Core.List.{List, [], ◌∷◌, ◌++◌, map, append_assoc}
use lib.ListN.{length, get_or, take, drop, length-drop, drop_of_length-le}
use lib.Seq.{drop-cons, take-suc, get_or-drop}
use lib.Dec.{eqb, ltb}
use borrow.Author.Tests.{ne_eqb, eqb-true, eqb-false, ltb-true, ltb-false}
use mathlib.Core.Bool.{Bool, true, false}
use Rattle.text.specs.Form.{format, Plain, PlainTo, Opens, beyond}
use Rattle.text.specs.Said.{shown}
use Rattle.text.specs.declared.said.Arg.{Arg}

module _ (t : List ℕ) (i : ℕ) (h : i < length t) where
  at_drop : drop i t ≡ get_or t i 0 ∷ drop (i + 1) t
  at_drop = drop-cons t i 0 h ∙ ap (λ (k : ℕ). get_or t i 0 ∷ drop k t) (sym (add-one i))

  pub form_arg : (s : List ℕ) (as' : List Arg) (n : ℕ) (d : Arg) → get_or t i 0 ≡ 123 → n < length as'
      → format (drop i t) (map (shown s) (drop n as')) ≡ shown s (get_or as' n d) ++ format (drop (i + 1) t) (map (shown s) (drop (n + 1) as'))
  unfolding format
  form_arg s as' n d e l = rw (at_drop, e, drop-cons as' n d l, add-one n)

  pub form_open : (s : List ℕ) (as' : List Arg) (n : ℕ) → get_or t i 0 ≡ 123 → length as' ≤ n
      → format (drop i t) (map (shown s) (drop n as')) ≡ format (drop (i + 1) t) (map (shown s) (drop n as'))
  unfolding format
  form_open s as' n e l = rw (at_drop, e, drop_of_length-le as' l)

  pub form_close : (as' : List (List ℕ)) → get_or t i 0 ≡ 125 → format (drop i t) as' ≡ format (drop (i + 1) t) as'
  unfolding format
  form_close as' e = rw (at_drop, e)

  pub form_plain : (as' : List (List ℕ)) → (get_or t i 0 ≡ 123 → ⊥) → (get_or t i 0 ≡ 125 → ⊥)
      → format (drop i t) as' ≡ (get_or t i 0 ∷ []) ++ format (drop (i + 1) t) as'
  unfolding format
  form_plain as' e f = rw (at_drop, ne_eqb _ _ e, ne_eqb _ _ f)

-- one byte more
pub plain_more : {t : List ℕ} {i j : ℕ} → i ≤ j → j < length t → (get_or t j 0 ≡ 123 → ⊥) → (get_or t j 0 ≡ 125 → ⊥) → Plain t i j → Plain t i (j + 1)
plain_more {t} {i} {j} l h e f p =
    let more : take (j + 1 - i) (drop i t) ≡ take (j - i) (drop i t) ++ (get_or t j 0 ∷ []) =
    let s : j + 1 - i ≡ suc (j - i) = omega arith in
    let k : i + (j - i) ≡ j = omega arith in
    rw s (take-suc (drop i t) (j - i) 0 (simp length-drop (omega arith)) ∙ rw (get_or-drop, k)) in
    record {
      formed =
          λ as'. p.formed as'
          ∙ ap (λ (x : List ℕ). take (j - i) (drop i t) ++ x) (form_plain t j h as' e f)
          ∙ sym (append_assoc (take (j - i) (drop i t)) (get_or t j 0 ∷ []) (format (drop (j + 1) t) as'))
          ∙ ap (λ (x : List ℕ). x ++ format (drop (j + 1) t) as') (sym more);
    }

pub form_end : (t : List ℕ) (i : ℕ) (as' : List (List ℕ)) → length t ≤ i → format (drop i t) as' ≡ []
unfolding format
form_end t i as' h = rw (drop_of_length-le t h)

-- false is not true
pub never : {A : Type 0} → false ≡ true → A
never e = absurd (let z : ◌≡◌ {A = ℕ} 0 1 = cc in omega arith)

-- a piece of a form: m plain bytes from i to j, and then an argument or none; e is the place after it
module _ (t s : List ℕ) (as' : List Arg) (i j n m e : ℕ) (five : length as' ≡ 5) (k : m ≡ j - i) (f : e ≡ beyond t j) {b : Bool} (p : PlainTo t i j) (o : Opens t j n b) where
  piece : {x : List ℕ} → format (drop j t) (map (shown s) (drop n as')) ≡ x → format (drop i t) (map (shown s) (drop n as')) ≡ take m (drop i t) ++ x
  piece g = rw k (p.plain.formed (map (shown s) (drop n as')) ∙ ap (λ (y : List ℕ). take (j - i) (drop i t) ++ y) g)

  pub piece_arg : (d : Arg) → b ≡ true
      → format (drop i t) (map (shown s) (drop n as')) ≡ take m (drop i t) ++ (shown s (get_or as' n d) ++ format (drop e t) (map (shown s) (drop (n + 1) as')))
  piece_arg d y =
      let h = o.inside y in
      let few = o.few y in
      let q : e ≡ j + 1 = omega arith in
      piece (rw q (form_arg t j h s as' n d (o.brace y) (omega arith)))

  pub piece_none : b ≡ false → format (drop i t) (map (shown s) (drop n as')) ≡ take m (drop i t) ++ format (drop e t) (map (shown s) (drop n as'))
  piece_none y = piece (go (ltb j (length t)) refl (eqb (get_or t j 0) 123) refl)
    where
      go : (c : Bool) → ltb j (length t) ≡ c → (d : Bool) → eqb (get_or t j 0) 123 ≡ d
          → format (drop j t) (map (shown s) (drop n as')) ≡ format (drop e t) (map (shown s) (drop n as'))
      go true h true g =
          let l = ltb-true j (length t) h in
          let full = o.none y l (eqb-true _ _ g) in
          let q : e ≡ j + 1 = omega arith in
          rw q (form_open t j l s as' n (eqb-true _ _ g) (omega arith))
      go true h false g =
          let l = ltb-true j (length t) h in
          let q : e ≡ j + 1 = omega arith in
          rw q (form_close t j l (map (shown s) (drop n as')) (p.brace l (eqb-false _ _ g)))
      go false h d g =
          let l = ltb-false j (length t) h in
          let q : e ≡ j = omega (arith, p.within) in
          rw q
