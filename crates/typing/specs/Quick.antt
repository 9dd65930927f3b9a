-- Types as numbers, by which the code tells what most operators make: a shortcut, shown to lead to the rules' answer.
use Rattle.std.specs.Prelude.{ℕ, ◌+◌, ◌<◌, ◌≤◌, ◌≡◌, Bool, true, ◌⊎◌}
use Rattle.std.proofs.Math.Option.{none}
use Rattle.typing.specs.Types.{ExprType, bool, bit, int_lit, enum}
use Rattle.typing.specs.Causes.{is}
use Rattle.typing.specs.Rules.{compatible_with, bin_op, binary_type}

unfoldable pub code_of : ExprType → ℕ
code_of bool = 0
code_of int_lit = 1
code_of (enum n) = 2
code_of (bit w) = w + 3

-- a bitvector, with the same or with a literal
pub record Alike (a b : ℕ) (r : Bool) : Type 0 where
  pub wide : r ≡ true → 3 ≤ a
  pub same : r ≡ true → (b ≡ 1) ⊎ (a ≡ b)

-- r is the number of what an operator makes of types by their numbers, or 2
pub record Makes (op a b r : ℕ) : Type 0 where
  pub of : (x y t : ExprType) → code_of x ≡ a → code_of y ≡ b → code_of t ≡ r → (r ≡ 2 → ⊥) → binary_type (bin_op op) x y ≡ is t
  pub few : 2 < r → r ≡ a

-- types that can be compared, where that is told
pub record Surely (x y : ExprType) (r : Bool) : Type 0 where
  pub of : r ≡ true → compatible_with x y ≡ none
