-- The upper bits of the print by the key's factor, spread.
use Rattle.typing.proofs.LaneLaws.{lane_is}
use Rattle.typing.proofs.lanes.lane_of.Goals as goal

pub returns-clause-value : goal.returns-clause-value
returns-clause-value c = search lane_is
