use native.Mathlib.Omega.{arith}
use borrow.Author.Rules.{rules}
use Rattle.findings.proofs.OrderLaws.{mark_start, mark_skip, mark_other, mark_here, mark_done}
use Rattle.findings.proofs.order.mark_state.Goals as goal
use Rattle.findings.proofs.order.mark_state.Goals.{then-prints-k+then-same_fields, else-prints-k, else-prints-k-via-then-prints-k+else-same_fields, else-prints-k-via-else-prints-k}

pub loop-j-init : goal.loop-j-init
loop-j-init c = mark_start _ _ _ _ _ _ (omega arith) (search rules)

pub loop-j-preserved : goal.loop-j-preserved
loop-j-preserved c = elim c.if-prints-k.branch [
  | then-prints-k+then-same_fields w ↦ rw w.done-is (search mark_here)
  | else-prints-k w ↦ rw w.done-is (elim w.else-prints-k.branch [
    | else-prints-k-via-then-prints-k+else-same_fields w' ↦ search mark_other
    | else-prints-k-via-else-prints-k w' ↦ search mark_skip
  ])
]

pub returns : goal.returns
returns c = search mark_done
