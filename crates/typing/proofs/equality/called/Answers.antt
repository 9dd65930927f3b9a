-- By the name.
use Rattle.std.specs.Prelude.{◌≡◌, None}
use borrow.Author.Rules.{rules}
use Rattle.typing.proofs.EqualityLaws.{called_nothing, called_hit, called_miss}
use Rattle.typing.proofs.equality.called.Goals as goal

pub returns-in_err-e : goal.returns-in_err-e
returns-in_err-e c = let e : c.from_residual.result ≡ None = search rules in rw e (search (called_nothing, c.in_err-e.was))

pub returns-then-same : goal.returns-then-same
returns-then-same c = search (called_hit, c.in_ok-e.was)

pub returns : goal.returns
returns c = search (called_miss, c.in_ok-e.was)
