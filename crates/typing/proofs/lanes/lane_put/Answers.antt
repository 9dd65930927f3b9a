-- The pair is put before those of its lane.
use lib.ListN.{length-set}
use Rattle.typing.proofs.LaneLaws.{lane_room, lanes_more}
use Rattle.typing.proofs.lanes.lane_put.Goals as goal

pub bounds-heads-h : goal.bounds-heads-h
bounds-heads-h c = search lane_room

pub bounds-heads-h-2 : goal.bounds-heads-h-2
bounds-heads-h-2 c = search lane_room

pub shape_of-heads : goal.shape_of-heads
shape_of-heads c = search length-set

pub shape_of-links : goal.shape_of-links
shape_of-links c = search length-set

pub returns-clause-lanes_2 : goal.returns-clause-lanes_2
returns-clause-lanes_2 c = search lanes_more

pub returns-clause-links_len_unchanged : goal.returns-clause-links_len_unchanged
returns-clause-links_len_unchanged c = search length-set
