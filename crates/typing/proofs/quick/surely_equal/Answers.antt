-- By the numbers of both.
use Rattle.typing.proofs.QuickLaws.{surely_same}
use Rattle.typing.proofs.quick.surely_equal.Goals as goal

pub returns-then-a-ne2 : goal.returns-then-a-ne2
returns-then-a-ne2 c = search surely_same
