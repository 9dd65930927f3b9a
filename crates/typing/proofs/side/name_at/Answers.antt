-- By how many names the path has.
use Rattle.typing.proofs.EqualityLaws.{name_none, name_other, name_only}
use Rattle.typing.proofs.side.name_at.Goals as goal

pub returns-in_default : goal.returns-in_default
returns-in_default c = search name_none

pub returns-then-segments-ne1 : goal.returns-then-segments-ne1
returns-then-segments-ne1 c = search name_other

pub returns : goal.returns
returns c = search name_only
