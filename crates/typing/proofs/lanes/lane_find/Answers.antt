use Rattle.typing.proofs.TableLaws.{find_hit, find_none}
use Rattle.typing.proofs.LaneLaws.{lane_room, walk_start, walk_more, walk_less}
use Rattle.typing.proofs.lanes.lane_find.Goals as goal

pub bounds-heads-lane_of : goal.bounds-heads-lane_of
bounds-heads-lane_of c = search lane_room

pub loop-p-init : goal.loop-p-init
loop-p-init c = search walk_start

pub returns-then-same : goal.returns-then-same
returns-then-same c = search find_hit

pub loop-p-smaller : goal.loop-p-smaller
loop-p-smaller c = search walk_less

pub loop-p-preserved : goal.loop-p-preserved
loop-p-preserved c = search walk_more

pub returns : goal.returns
returns c = search find_none
