use native.Mathlib.Omega.{arith}
use Rattle.findings.proofs.TransitionLaws.{turns_start, turns_more, turns_done}
use Rattle.findings.proofs.transition.note_transitions.Goals as goal

pub loop-i-init : goal.loop-i-init
loop-i-init c = (search turns_start, omega arith)

pub loop-i-preserved : goal.loop-i-preserved
loop-i-preserved c = (search turns_more, omega arith)

pub returns-clause-notes_transitions : goal.returns-clause-notes_transitions
returns-clause-notes_transitions c = search turns_done
