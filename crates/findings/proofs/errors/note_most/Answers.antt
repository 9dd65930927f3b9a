-- One after another.
use Rattle.findings.proofs.ModuleLaws.{most_noted}
use Rattle.findings.proofs.errors.note_most.Goals as goal

pub returns-clause-notes_most : goal.returns-clause-notes_most
returns-clause-notes_most c = search most_noted
