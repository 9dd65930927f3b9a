-- By the head, and then by the name.
use Rattle.typing.proofs.FirstLaws.{next_none, next_hit, next_miss}
use Rattle.typing.proofs.first.past_other.Goals as goal

pub returns-in_default : goal.returns-in_default
returns-in_default c = search next_none

pub returns-then-same : goal.returns-then-same
returns-then-same c = search next_hit

pub returns : goal.returns
returns c = search next_miss
