-- Two tests of a byte agree on every byte: one comparison, which is computed at each.
use Prim.Native.Nat.{ℕ, zero, suc, ◌+◌, ◌/◌, ◌%◌, ◌^◌, ◌<◌}
use mathlib.Core.Path.{◌≡◌, refl, sym, ap, ◌∙◌, subst}
use mathlib.Core.Bool.{Bool, true, false}
use native.Mathlib.Omega.{arith}
use lib.Dec.{T, eqb, ltb}
use borrow.Author.Tests.{eqb-true, eqb-false}
use Rattle.reading.specs.Read.{pick}
use Rattle.reading.specs.Text.{name_byte}
use Rattle.reading.specs.Short.{name_row, tally}
use Rattle.reading.proofs.Rules.{by}

-- two answers are the same, and then b
abbrev same : Bool → Bool → Bool → Bool
same true true b = b
same false false b = b
same true false b = false
same false true b = false

same_is : (x y b : Bool) → T (same x y b) → (x ≡ y) × T b
same_is true true b t = (refl, t)
same_is false false b t = (refl, t)
same_is true false b t = absurd t
same_is false true b t = absurd t

module _ (f g : ℕ → Bool) where
  -- below n
  abbrev alike : ℕ → Bool
  alike zero = true
  alike (suc n) = same (f n) (g n) (alike n)

  below : (n : ℕ) → T (alike n) → (k : ℕ) → k < n → f k ≡ g k
  below zero t k h = absurd (omega arith)
  below (suc n) t k h =
      let s = same_is (f n) (g n) (alike n) t in
      by (eqb k n) (λ e. subst (λ (i : ℕ). f i ≡ g i) (sym (eqb-true k n e)) s.0) λ e.
      let d : k ≡ n → ⊥ = eqb-false k n e in
      below n s.1 k (omega arith)

-- the bit of a byte in its row
pub name_bit : (b : ℕ) → b < 256 → {row : ℕ} → row ≡ name_row (b / 32) → eqb (row / 2 ^ (b % 32) % 2) 1 ≡ name_byte b
unfolding name_row name_byte pick
name_bit b h e = ap (λ (r : ℕ). eqb (r / 2 ^ (b % 32) % 2) 1) e ∙ below (λ i. eqb (name_row (i / 32) / 2 ^ (i % 32) % 2) 1) name_byte 256 tt b h

-- 1 for a number from low to high, else 0
abbrev part : ℕ → ℕ → ℕ → ℕ
part b low high = pick (ltb b low) 0 (pick (ltb high b) 0 1)

-- a byte of a name is in one of four ranges
pub name_parts : (b : ℕ) → b < 256 → {w x y z : ℕ} → w ≡ part b 48 57 → x ≡ part b 65 90 → y ≡ part b 95 95 → z ≡ part b 97 122 → w + x + y + z ≡ tally (name_byte b)
unfolding name_byte pick tally
name_parts b h p q r s = rw (p, q, r, s) (eqb-true _ _ (below (λ i. eqb (part i 48 57 + part i 65 90 + part i 95 95 + part i 97 122) (tally (name_byte i))) (λ i. true) 256 tt b h))
