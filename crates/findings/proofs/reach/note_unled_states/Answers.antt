-- Where they are found.
use Rattle.findings.proofs.UnledLaws.{states_missing, states_found}
use Rattle.findings.proofs.reach.note_unled_states.Goals as goal

pub returns-in_default-clause-notes_unled_states : goal.returns-in_default-clause-notes_unled_states
returns-in_default-clause-notes_unled_states c = search states_missing

pub returns-clause-notes_unled_states : goal.returns-clause-notes_unled_states
returns-clause-notes_unled_states c = search states_found
