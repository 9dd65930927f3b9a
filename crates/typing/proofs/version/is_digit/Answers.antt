-- By what the tests say.
use borrow.Author.Tests.{lt-ltb, le-ltb}
use Rattle.reading.specs.Read.{pick}
use Rattle.typing.specs.Version.{is_digit}
use Rattle.typing.proofs.version.is_digit.Goals as goal

pub returns-then-b-lt48 : goal.returns-then-b-lt48
unfolding is_digit pick
returns-then-b-lt48 c = rw (lt-ltb _ _ c.if-b-lt48.true)

pub returns : goal.returns
unfolding is_digit pick
returns c = rw (le-ltb _ _ c.if-b-lt48.false)
