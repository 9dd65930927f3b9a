-- Those passed are taken.
use Prim.Native.Nat.{◌-◌}
use Rattle.findings.specs.Links.{Forth}
use Rattle.findings.proofs.links.next_free.Given as goal

abbrev pub invariant-loop-i : goal.invariant-loop-i
invariant-loop-i l = Forth l.count l.links l.marks l.from l.i

abbrev pub decreases-loop-i : goal.decreases-loop-i
decreases-loop-i l = l.count - l.i
