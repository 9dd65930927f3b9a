-- Transition by transition.
use Rattle.findings.specs.Reaching.{Swept, BeginsAt}
use Rattle.findings.proofs.walk.start_all.Given as goal

abbrev pub invariant-loop-i : goal.invariant-loop-i
invariant-loop-i l = Swept (BeginsAt l.doc l.rows l.prints l.name) l.count l.initial.marks l.initial.queue 0 l.i l.marks l.queue l.tail
