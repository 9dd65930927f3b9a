-- The name's print by the factor of the key.
use Rattle.typing.proofs.BlockLaws.{lane_is}
use Rattle.typing.proofs.block.block_lane.Goals as goal

pub returns-clause-value : goal.returns-clause-value
returns-clause-value c = search lane_is
