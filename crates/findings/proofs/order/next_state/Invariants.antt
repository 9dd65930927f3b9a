-- The least of those passed, and then of what is left, is that of all.
use Rattle.findings.proofs.OrderLaws.{Seeking}
use Rattle.findings.proofs.order.next_state.Given as goal

abbrev pub invariant-loop-i : goal.invariant-loop-i
invariant-loop-i l = Seeking l.doc l.rows l.count l.done l.b l.i
