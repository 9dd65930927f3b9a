-- By the numbers, or by the rule.
use Rattle.typing.proofs.QuickLaws.{surely_fine}
use Rattle.typing.proofs.quick.quickly_compatible.Goals as goal

pub returns-then-surely_equal : goal.returns-then-surely_equal
returns-then-surely_equal c = search surely_fine
