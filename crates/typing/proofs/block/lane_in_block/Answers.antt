-- The print is that of key 0.
use Rattle.typing.proofs.BlockLaws.{lane_first}
use Rattle.typing.proofs.block.lane_in_block.Goals as goal

pub returns-then-key-eq0-clause-value : goal.returns-then-key-eq0-clause-value
returns-then-key-eq0-clause-value c = search lane_first
