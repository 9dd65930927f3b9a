-- By what the tests say.
use borrow.Author.Tests.{eq-eqb, ne_eqb}
use Rattle.reading.specs.Read.{pick}
use Rattle.typing.specs.Version.{is_end}
use Rattle.typing.proofs.version.is_end.Goals as goal

pub returns-then-state-eq3 : goal.returns-then-state-eq3
unfolding is_end pick
returns-then-state-eq3 c = rw (eq-eqb _ _ c.if-state-eq3.true)

pub returns : goal.returns
unfolding is_end pick
returns c = rw (ne_eqb _ _ c.if-state-eq3.false)
