-- Entries of a list by their places.
use Prim.Native.Nat.{ℕ, zero, suc, ◌+◌, ◌<◌, ◌≤◌}
use mathlib.Core.Path.{◌≡◌, refl, ap, ◌∙◌}
use mathlib.Core.List.{List, [], ◌∷◌}
use mathlib.Core.Option.{none, some}
use native.Mathlib.Omega.{arith}
use lib.ListN.{length, drop, get_elem?}
use Rattle.reading.proofs.Rules.{no}

module _ {A : Type 0} where
  pub record Entry (xs : List A) (i : ℕ) : Type 0 where
    pub item : A
    pub is : get_elem? xs i ≡ some item

  pub entry_at : (xs : List A) (i : ℕ) → i < length xs → Entry xs i
  entry_at [] i h = absurd (omega arith)
  entry_at (x ∷ xs) zero h = record { item = x; is = refl }
  entry_at (x ∷ xs) (suc i) h = let e = entry_at xs i (omega arith) in record { item = e.item; is = e.is }

  pub entry_below : (xs : List A) (i : ℕ) (x : A) → get_elem? xs i ≡ some x → i < length xs
  entry_below [] i x e = no (cc)
  entry_below (y ∷ xs) zero x e = omega arith
  entry_below (y ∷ xs) (suc i) x e = let l = entry_below xs i x e in omega arith

  pub entry_past : (xs : List A) (i : ℕ) → length xs ≤ i → get_elem? xs i ≡ none
  entry_past [] i h = refl
  entry_past (x ∷ xs) zero h = absurd (omega arith)
  entry_past (x ∷ xs) (suc i) h = entry_past xs i (omega arith)

  -- the rest from a place on starts with the entry there
  pub drop_entry : (xs : List A) (i : ℕ) (x : A) → get_elem? xs i ≡ some x → drop i xs ≡ x ∷ drop (i + 1) xs
  drop_entry [] i x e = no (cc)
  drop_entry (y ∷ xs) zero x e = let q : y ≡ x = cc in ap (λ (z : A). z ∷ xs) q
  drop_entry (y ∷ xs) (suc i) x e = let q : suc (i + 1) ≡ suc i + 1 = omega arith in drop_entry xs i x e ∙ ap (λ (n : ℕ). x ∷ drop n (y ∷ xs)) q
