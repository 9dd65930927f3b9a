-- Of those passed, no two of one kind are marked.
use Rattle.findings.proofs.LoneLaws.{Unmarking}
use Rattle.findings.proofs.classes.lone.Given as goal

abbrev pub invariant-loop-i : goal.invariant-loop-i
invariant-loop-i l = Unmarking l.kinds l.i l.marks
