-- By the case.
use Rattle.typing.proofs.FirstLaws.{unit_ends, struct_ends}
use Rattle.typing.proofs.first.after_variant.Goals as goal

pub returns-then-case-eq0 : goal.returns-then-case-eq0
returns-then-case-eq0 c = search unit_ends

pub returns : goal.returns
returns c = search struct_ends
