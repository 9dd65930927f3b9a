-- The guard, the assignments and the outputs stand where the row says.
use Rattle.findings.proofs.TransitionLaws.{body_noted}
use Rattle.findings.proofs.transition.note_body.Goals as goal

pub returns-clause-notes_body : goal.returns-clause-notes_body
returns-clause-notes_body c = search body_noted
