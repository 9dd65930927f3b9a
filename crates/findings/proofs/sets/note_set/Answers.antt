-- By what the table has under the name.
use Rattle.findings.proofs.SetLaws.{set_found}
use Rattle.findings.proofs.sets.note_set.Goals as goal

pub returns-clause-notes_set : goal.returns-clause-notes_set
returns-clause-notes_set c = search set_found
