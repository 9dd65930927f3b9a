-- The pairs of the lane before place p decide.
use Rattle.typing.proofs.LaneLaws.{Walking}
use Rattle.typing.proofs.lanes.lane_find.Given as goal

abbrev pub invariant-loop-p : goal.invariant-loop-p
invariant-loop-p l = Walking l.doc l.table l.k l.heads l.links l.name l.p

abbrev pub decreases-loop-p : goal.decreases-loop-p
decreases-loop-p l = l.p
