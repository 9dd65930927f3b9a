-- By the names with those that the pattern binds.
use Rattle.findings.proofs.TransitionLaws.{transition_noted}
use Rattle.findings.proofs.transition.note_transition.Goals as goal

pub returns-clause-notes_transition : goal.returns-clause-notes_transition
returns-clause-notes_transition c = search transition_noted
