-- By the typing's answer.
use Rattle.std.specs.Prelude.{◌≡◌, Err}
use borrow.Author.Rules.{rules}
use Rattle.typing.proofs.ArgLaws.{typed_is, typed_fails}
use Rattle.typing.proofs.args.typed_compatible.Goals as goal

pub returns-in_err-given : goal.returns-in_err-given
returns-in_err-given c = let e : c.from_residual.result ≡ Err c.in_err-given.field-0.0 = search rules in rw e (search (typed_fails, c.in_err-given.was))

pub returns : goal.returns
returns c = search (typed_is, c.in_ok-given.was)
