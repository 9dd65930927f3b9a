-- By the two bytes, and then by the name.
use Rattle.typing.proofs.FirstLaws.{unit_other}
use Rattle.typing.proofs.first.other_unit.Goals as goal

pub returns-then-doc-at-eq0 : goal.returns-then-doc-at-eq0
returns-then-doc-at-eq0 c = search unit_other
