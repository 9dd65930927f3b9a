-- Place by place along the lane.
use Prim.Native.Nat.{◌-◌}
use Rattle.findings.proofs.LinkLaws.{Sweeping}
use Rattle.findings.proofs.walk.follow.Given as goal

abbrev pub invariant-loop-i : goal.invariant-loop-i
invariant-loop-i l = Sweeping l.doc l.rows l.prints l.count l.p l.initial.marks l.initial.queue l.tail l.i l.marks l.queue l.t

abbrev pub decreases-loop-i : goal.decreases-loop-i
decreases-loop-i l = l.count - l.i
