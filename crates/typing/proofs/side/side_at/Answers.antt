-- By the case that stands there.
use Rattle.typing.proofs.EqualityLaws.{side_none, side_int, side_path, side_other}
use Rattle.typing.proofs.side.side_at.Goals as goal

pub returns-in_default : goal.returns-in_default
returns-in_default c = search side_none

pub returns-in-0 : goal.returns-in-0
returns-in-0 c = search side_int

pub returns-in-2 : goal.returns-in-2
returns-in-2 c = search side_path

pub returns-in_default-case : goal.returns-in_default-case
returns-in_default-case c = search side_other
