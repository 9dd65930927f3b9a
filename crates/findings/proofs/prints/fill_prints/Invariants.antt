-- Those before the next one have their prints.
use Prim.Native.Nat.{◌≤◌}
use Rattle.findings.proofs.PrintLaws.{PrintsSoFar}
use Rattle.findings.proofs.prints.fill_prints.Given as goal

abbrev pub invariant-loop-i : goal.invariant-loop-i
invariant-loop-i l = PrintsSoFar l.doc l.rows l.initial.prints l.i l.prints × (l.count ≤ 255)
