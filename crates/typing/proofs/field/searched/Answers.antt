-- By whether it is one of those apart.
use Rattle.typing.proofs.ApartLaws.{search_none, search_all}
use Rattle.typing.proofs.field.searched.Goals as goal

pub returns-then-i-apart : goal.returns-then-i-apart
returns-then-i-apart c = search search_none

pub returns : goal.returns
returns c = search search_all
