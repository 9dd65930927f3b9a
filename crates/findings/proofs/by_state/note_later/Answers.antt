use native.Mathlib.Omega.{arith}
use Rattle.findings.proofs.StateTurns.{later_start, later_more, later_skip, later_done}
use Rattle.findings.proofs.by_state.note_later.Goals as goal
use Rattle.findings.proofs.by_state.note_later.Goals.{then-kinds-j, else-kinds-j}

pub loop-j-init : goal.loop-j-init
loop-j-init c = (search later_start, omega arith)

pub loop-j-preserved : goal.loop-j-preserved
loop-j-preserved c = elim c.if-kinds-j.branch [
  | then-kinds-j w ↦ (search later_more, omega arith)
  | else-kinds-j w ↦ (search later_skip, omega arith)
]

pub returns-clause-notes_later : goal.returns-clause-notes_later
returns-clause-notes_later c = search later_done
