use Rattle.findings.proofs.UseLaws.{uses_start, uses_turn, uses_pass, uses_done}
use Rattle.findings.proofs.uses.fill_uses.Goals as goal
use Rattle.findings.proofs.uses.fill_uses.Goals.{then-marks-i, else-marks-i}

pub loop-i-init : goal.loop-i-init
loop-i-init c = search uses_start

pub loop-i-preserved : goal.loop-i-preserved
loop-i-preserved c = elim c.if-marks-i.branch [
  | then-marks-i w ↦ rw (w.table-is, w.u-is) (search uses_turn)
  | else-marks-i w ↦ rw (w.table-is, w.u-is) (search uses_pass)
]

pub returns : goal.returns
returns c = search uses_done
