-- By whether the name is a State variant.
use Rattle.findings.proofs.StateLaws.{state_noted}
use Rattle.findings.proofs.states.note_state.Goals as goal

pub returns-clause-notes_state : goal.returns-clause-notes_state
returns-clause-notes_state c = search state_noted
