-- One after another.
use Rattle.findings.proofs.OpeningLaws.{opening_noted}
use Rattle.findings.proofs.opening.note_opening.Goals as goal

pub returns-clause-notes_opening : goal.returns-clause-notes_opening
returns-clause-notes_opening c = search opening_noted
