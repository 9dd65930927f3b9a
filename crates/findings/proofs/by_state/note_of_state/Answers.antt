use native.Mathlib.Omega.{arith}
use Rattle.findings.proofs.StateTurns.{state_start, state_more, state_skip, state_done}
use Rattle.findings.proofs.by_state.note_of_state.Goals as goal
use Rattle.findings.proofs.by_state.note_of_state.Goals.{then-prints-k, else-prints-k}

pub loop-i-init : goal.loop-i-init
loop-i-init c = (search state_start, omega arith)

pub loop-i-preserved : goal.loop-i-preserved
loop-i-preserved c = elim c.if-prints-k.branch [
  | then-prints-k w ↦ (search state_more, omega arith)
  | else-prints-k w ↦ (search state_skip, omega arith)
]

pub returns-clause-notes_of_state : goal.returns-clause-notes_of_state
returns-clause-notes_of_state c = search state_done
