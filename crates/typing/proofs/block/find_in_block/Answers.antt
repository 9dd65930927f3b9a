use Rattle.typing.proofs.Counts.{all_left, some_left, none_left, fewer_left}
use Rattle.typing.proofs.BlockLaws.{lane_start, lane_over, lane_end, lane_out, lane_hit, lane_miss}
use Rattle.typing.proofs.block.find_in_block.Goals as goal

pub loop-init : goal.loop-init
loop-init c = rw (all_left _) (search lane_start)

pub returns-then-p-eq0 : goal.returns-then-p-eq0
returns-then-p-eq0 c = search (lane_end, some_left)

pub returns-then-p-gt255 : goal.returns-then-p-gt255
returns-then-p-gt255 c = search (lane_out, some_left)

pub returns-then-same : goal.returns-then-same
returns-then-same c = search (lane_hit _ _ _ _ _ _ c.loop.invariant, some_left)

pub loop-preserved : goal.loop-preserved
loop-preserved c = rw (fewer_left _ _) (search (lane_miss, some_left))

pub returns : goal.returns
returns c = search (lane_over, none_left)
