-- By the first equality of its name.
use Rattle.std.specs.Prelude.{◌≡◌, None}
use borrow.Author.Rules.{rules}
use Rattle.typing.proofs.GuardLaws.{clash_nothing, clash_absent, clash_same, clash_found}
use Rattle.typing.proofs.guard.clash_of.Goals as goal

pub returns-in_err-later : goal.returns-in_err-later
returns-in_err-later c = let e : c.from_residual.result ≡ None = search rules in rw e (search (clash_nothing, c.in_err-later.was))

pub returns-in_err-earlier : goal.returns-in_err-earlier
returns-in_err-earlier c = let e : c.from_residual-in_err-earlier.result ≡ None = search rules in rw e (search (clash_absent, c.in_ok-later.was, c.in_err-earlier.was))

pub returns-then-earlier-later : goal.returns-then-earlier-later
returns-then-earlier-later c = search (clash_same, c.in_ok-later.was, c.in_ok-earlier.was)

pub returns : goal.returns
returns c = search (clash_found, c.in_ok-later.was, c.in_ok-earlier.was)
