-- Those passed are marked.
use Rattle.findings.proofs.OrderLaws.{Marking}
use Rattle.findings.proofs.order.mark_state.Given as goal

abbrev pub invariant-loop-j : goal.invariant-loop-j
invariant-loop-j l = Marking l.doc l.rows l.prints l.count l.b l.initial.done l.j l.done
