-- The decimal digits of a number, one by one; and that they mean it.
use Prim.Native.Nat.{ℕ, zero, suc, ◌+◌, ◌-◌, ◌*◌, ◌/◌, ◌%◌, ◌<◌, ◌≤◌}
use native.Mathlib.Numerals.{sub-one}
use native.Mathlib.Omega.{arith}
use mathlib.Core.Path.{◌≡◌, refl, ap, ◌∙◌}
use mathlib.Core.Bool.{Bool, true, false}
use mathlib.Core.List.{List, [], ◌∷◌, ◌++◌}
use lib.Dec.{ltb}
use borrow.Author.Tests.{lt-ltb, le-ltb, ltb-true}
use Rattle.text.specs.Form.{text}
use Rattle.text.specs.Shown.{digits, decimal}
use Rattle.text.specs.Decimal.{value_after, value, Digits}

pub digits_none : (k n : ℕ) → k ≡ 0 → digits k n ≡ []
unfolding digits
digits_none k n e = rw e

pub digits_one : (k n : ℕ) {b : ℕ} → (k ≡ 0 → ⊥) → n < 10 → b ≡ 48 + n → digits k n ≡ b ∷ []
unfolding digits
digits_one zero n z h e = absurd (z refl)
digits_one (suc k) n z h e = rw (lt-ltb n 10 h, e)

pub digits_more : (k n : ℕ) {b : ℕ} → (k ≡ 0 → ⊥) → 10 ≤ n → b ≡ 48 + n % 10 → digits k n ≡ digits (k - 1) (n / 10) ++ (b ∷ [])
unfolding digits
digits_more zero n z h e = absurd (z refl)
digits_more (suc k) n z h e = rw (le-ltb n 10 h, sub-one, e)

-- a number of one digit, and of two
pub decimal_one : (n : ℕ) {b : ℕ} → n < 10 → b ≡ 48 + n → decimal n ≡ b ∷ []
decimal_one n h e = digits_one 20 n (λ z. omega arith) h e

pub decimal_two : (n : ℕ) {a b : ℕ} → 10 ≤ n → n < 100 → a ≡ 48 + n / 10 → b ≡ 48 + n % 10 → decimal n ≡ (a ∷ []) ++ (b ∷ [])
decimal_two n {a} {b} l h e f =
    digits_more 20 n (λ z. omega arith) l f ∙ ap (λ (x : List ℕ). x ++ (b ∷ [])) (digits_one 19 (n / 10) (λ z. omega arith) (omega arith) e)

examples : (decimal 0 ≡ text "0") × (decimal 255 ≡ text "255") × (decimal 18446744073709551615 ≡ text "18446744073709551615")
unfolding digits
examples = (refl, refl, refl)

value_more : (n : ℕ) (bs : List ℕ) (b : ℕ) → value_after n (bs ++ (b ∷ [])) ≡ value_after n bs * 10 + (b - 48)
unfolding value_after
value_more n [] b = refl
value_more n (x ∷ bs) b = value_more (n * 10 + (x - 48)) bs b

digits_are : (bs : List ℕ) (b : ℕ) → Digits bs → 48 ≤ b → b ≤ 57 → Digits (bs ++ (b ∷ []))
unfolding Digits
digits_are [] b d l h = (l, h, tt)
digits_are (x ∷ bs) b d l h = (d.0, d.1, digits_are bs b d.2 l h)

-- ten to the k
tens : ℕ → ℕ
tens zero = 1
tens (suc k) = 10 * tens k

-- k digits mean every number below ten to the k
value_digits : (k n : ℕ) → n < tens k → value (digits k n) ≡ n
unfolding digits value_after tens
value_digits zero n h = omega arith
value_digits (suc k) n h = go (value_digits k (n / 10) (omega arith)) (ltb n 10) refl where
  go : value (digits k (n / 10)) ≡ n / 10 → (b : Bool) → ltb n 10 ≡ b → value (digits (suc k) n) ≡ n
  go i true e = rw e (omega arith)
  go i false e = rw e (value_more 0 (digits k (n / 10)) (48 + n % 10) ∙ rw i (omega arith))

digits_digits : (k n : ℕ) → Digits (digits k n)
unfolding digits Digits
digits_digits zero n = tt
digits_digits (suc k) n = go (digits_digits k (n / 10)) (ltb n 10) refl where
  go : Digits (digits k (n / 10)) → (b : Bool) → ltb n 10 ≡ b → Digits (digits (suc k) n)
  go i true e = let h : n < 10 = ltb-true n 10 e in rw e (omega arith, omega arith, tt)
  go i false e = rw e (digits_are (digits k (n / 10)) (48 + n % 10) i (omega arith) (omega arith))

-- the decimal text of a number of 64 bits means it
pub decimal_means : (n : ℕ) → n ≤ 18446744073709551615 → value (decimal n) ≡ n
unfolding tens
decimal_means n h = value_digits 20 n (omega arith)

-- and each of its bytes is a digit's character
pub decimal_digits : (n : ℕ) → Digits (decimal n)
decimal_digits n = digits_digits 20 n
