-- By the case that stands there.
use Rattle.typing.proofs.EqualityLaws.{conjunct_deep, conjunct_none, conjunct_other, conjunct_binary}
use Rattle.typing.proofs.equality.conjunct_at.Goals as goal

pub returns-then-depth-eq0 : goal.returns-then-depth-eq0
returns-then-depth-eq0 c = search conjunct_deep

pub returns-in_default : goal.returns-in_default
returns-in_default c = search conjunct_none

pub returns-then-tag-ne4 : goal.returns-then-tag-ne4
returns-then-tag-ne4 c = search conjunct_other

pub returns : goal.returns
returns c = search conjunct_binary
