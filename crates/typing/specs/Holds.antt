-- What the judging of guards promises: for whatever reads there, its answer is the definition's.
use Rattle.std.specs.Prelude.{ℕ, ◌≡◌, List, Bool, Option as Maybe, Some, None}
use Rattle.std.proofs.Math.Option.{Option, none, some}
use Rattle.reading.specs.Read.{ok}
use Rattle.reading.specs.Expr.{Expr, read_expr}
use Rattle.reading.specs.Skip.{text_at}
use Rattle.typing.specs.Guards as guards
use Rattle.typing.specs.Guards.{is_literal_false, contradictory_equalities}
use Rattle.typing.specs.declared.guard.Clash.{Clash}

unfoldable pub clash_of : List ℕ → Maybe Clash → Option guards.Clash
clash_of s None = none
clash_of s (Some c) = some (record { name = text_at s c.name; earlier = c.earlier; later = c.later })

-- an expression at a place, with as many levels left
pub record LiteralFalse (d : ℕ) (s : List ℕ) (at : ℕ) (r : Bool) : Type 0 where
  pub of : (e : Expr) (n : ℕ) → read_expr d s at ≡ ok e n → r ≡ is_literal_false e

pub record Contradicts (d : ℕ) (s : List ℕ) (at : ℕ) (r : Maybe Clash) : Type 0 where
  pub of : (e : Expr) (n : ℕ) → read_expr d s at ≡ ok e n → clash_of s r ≡ contradictory_equalities e
