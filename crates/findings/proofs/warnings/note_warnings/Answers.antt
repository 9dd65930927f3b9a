-- One after another.
use Rattle.findings.proofs.ModuleLaws.{warnings_noted}
use Rattle.findings.proofs.warnings.note_warnings.Goals as goal

pub returns-clause-notes_warnings : goal.returns-clause-notes_warnings
returns-clause-notes_warnings c = search warnings_noted
