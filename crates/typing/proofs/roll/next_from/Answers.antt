-- By whether the lane goes on, and with an item of the same print.
use Rattle.typing.proofs.ChainLaws.{next_none, next_same, next_other}
use Rattle.typing.proofs.roll.next_from.Goals as goal

pub returns-then-hint-eq0 : goal.returns-then-hint-eq0
returns-then-hint-eq0 c = search next_none

pub returns-then-table-o : goal.returns-then-table-o
returns-then-table-o c = search next_same

pub returns : goal.returns
returns c = search next_other
