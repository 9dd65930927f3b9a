-- One after another.
use Rattle.findings.proofs.ModuleLaws.{errors_noted}
use Rattle.findings.proofs.errors.note_errors.Goals as goal

pub returns-clause-notes_errors : goal.returns-clause-notes_errors
returns-clause-notes_errors c = search errors_noted
