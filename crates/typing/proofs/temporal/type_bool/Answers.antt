-- By the typing's answer.
use Rattle.std.specs.Prelude.{◌≡◌, Err}
use borrow.Author.Rules.{rules}
use Rattle.typing.proofs.JudgeLaws.{bool_fine, bool_other, bool_fails}
use Rattle.typing.proofs.temporal.type_bool.Goals as goal

pub returns-in_err-ty : goal.returns-in_err-ty
returns-in_err-ty c = let e : c.from_residual.result ≡ Err c.in_err-ty.field-0.0 = search rules in rw e (search (bool_fails, c.in_err-ty.was))

pub returns-then-is_bool : goal.returns-then-is_bool
returns-then-is_bool c = search (bool_fine, c.in_ok-ty.was)

pub returns : goal.returns
returns c = search (bool_other, c.in_ok-ty.was)
