-- Texts put one after another.
use Prim.Native.Nat.{ℕ, suc, ◌+◌, ◌-◌, ◌<◌, ◌≤◌}
use native.Mathlib.Nat.{add-zero, add-suc, suc-add}
use native.Mathlib.Numerals.{add-one}
use native.Mathlib.Omega.{arith}
use mathlib.Core.Path.{◌≡◌, refl, sym, ap, ◌∙◌}
use mathlib.Core.List.{List, [], ◌∷◌, ◌++◌}
use lib.ListN.{length, set, take, drop, get_or, length-append}
use lib.Seq.{sets, set_out, take-suc, length-sets, length-take-le}
use Rattle.std.proofs.lemmas.List.{take-append-drop}
use Rattle.text.specs.Put.{Put}

pub sets_sets : (o : List ℕ) (at : ℕ) (xs ys : List ℕ) → sets (sets o at xs) (at + length xs) ys ≡ sets o at (xs ++ ys)
sets_sets o at [] ys = rw add-zero
sets_sets o at (x ∷ xs) ys =
    ap (λ (k : ℕ). sets (sets (set o at x) (suc at) xs) k ys) (add-suc at (length xs) ∙ sym (suc-add at (length xs)))
    ∙ sets_sets (set o at x) (suc at) xs ys

-- one text after another
infixl 60 ◌then◌
pub ◌then◌ : {o o₁ o₂ xs ys : List ℕ} {at r₁ r₂ : ℕ} → Put o at xs r₁ o₁ → Put o₁ r₁ ys r₂ o₂ → Put o at (xs ++ ys) r₂ o₂
◌then◌ {o} {o₁} {o₂} {xs} {ys} {at} {r₁} {r₂} p q = record {
  next = omega (arith, p.next, q.next, length-append xs ys);
  bytes =
      q.bytes
      ∙ ap (λ (l : List ℕ). sets l r₁ ys) p.bytes
      ∙ ap (λ (k : ℕ). sets (sets o at xs) k ys) p.next
      ∙ sets_sets o at xs ys;
}

-- one byte more of a text
pub sets_more : (o : List ℕ) (at : ℕ) (bs : List ℕ) (i : ℕ) → i < length bs
    → set (sets o at (take i bs)) (at + i) (get_or bs i 0) ≡ sets o at (take (i + 1) bs)
sets_more o at bs i h =
    ap (λ (k : ℕ). set (sets o at (take i bs)) (at + k) (get_or bs i 0)) (sym (length-take-le i bs (omega arith)))
    ∙ sets_sets o at (take i bs) (get_or bs i 0 ∷ [])
    ∙ ap (λ (l : List ℕ). sets o at l) (sym (take-suc bs i 0 h) ∙ ap (λ (k : ℕ). take k bs) (sym (add-one i)))

-- past the end nothing is put
pub sets_out : (o bs : List ℕ) (i : ℕ) → length o ≤ i → sets o i bs ≡ o
sets_out o [] i h = refl
sets_out o (b ∷ bs) i h = rw (set_out o i b h) (sets_out o bs (suc i) (omega arith))

-- of a text that reaches to the end or past it, as much as there is room for
pub sets_part : (o bs : List ℕ) (at : ℕ) → at ≤ length o → length o ≤ at + length bs → sets o at (take (length o - at) bs) ≡ sets o at bs
sets_part o bs at l h =
    let n : length (take (length o - at) bs) ≡ length o - at = length-take-le (length o - at) bs (omega arith) in
    let past = sets_out (sets o at (take (length o - at) bs)) (drop (length o - at) bs) (at + length (take (length o - at) bs)) (omega (arith, length-sets o at (take (length o - at) bs))) in
    sym past ∙ sets_sets o at (take (length o - at) bs) (drop (length o - at) bs) ∙ ap (sets o at) (take-append-drop (length o - at) bs)

-- nothing put
pub put_none : {o bs : List ℕ} {at : ℕ} → bs ≡ [] → Put o at bs at o
put_none {o} {bs} {at} e = record { next = simp (e, add-zero); bytes = simp e }

-- the same text
pub put_is : {o o' xs ys : List ℕ} {at r : ℕ} → ys ≡ xs → Put o at xs r o' → Put o at ys r o'
put_is e p = rw e p

pub ruleset puts = (◌then◌, put_none, put_is)
