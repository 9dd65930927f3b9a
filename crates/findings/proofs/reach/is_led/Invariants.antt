-- Transition by transition.
use Rattle.findings.proofs.UnledLaws.{HitsLeft}
use Rattle.findings.proofs.reach.is_led.Given as goal

abbrev pub invariant-loop-i : goal.invariant-loop-i
invariant-loop-i l = HitsLeft l.doc l.rows l.prints l.marks l.count l.at l.key l.i
