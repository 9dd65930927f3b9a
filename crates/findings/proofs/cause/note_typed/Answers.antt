-- By the number of the cause.
use Rattle.findings.proofs.CauseLaws.{typed_noted}
use Rattle.findings.proofs.cause.note_typed.Goals as goal

pub returns-clause-notes_typed : goal.returns-clause-notes_typed
returns-clause-notes_typed c = search typed_noted
