-- By the head's answer.
use Rattle.typing.proofs.GuardLaws.{false_none, false_is}
use Rattle.typing.proofs.guard.false_at.Goals as goal

pub returns-in_default : goal.returns-in_default
returns-in_default c = search false_none

pub returns : goal.returns
returns c = search false_is
