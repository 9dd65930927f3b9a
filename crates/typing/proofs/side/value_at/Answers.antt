-- By the number's answer.
use Rattle.typing.proofs.EqualityLaws.{value_none, value_is}
use Rattle.typing.proofs.side.value_at.Goals as goal

pub returns-in_default : goal.returns-in_default
returns-in_default c = search value_none

pub returns : goal.returns
returns c = search value_is
