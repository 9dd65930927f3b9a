-- One after another.
use Rattle.findings.proofs.ModuleLaws.{closing_noted}
use Rattle.findings.proofs.module.note_closing.Goals as goal

pub returns-clause-notes_closing : goal.returns-clause-notes_closing
returns-clause-notes_closing c = search closing_noted
