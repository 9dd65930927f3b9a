-- One after another.
use Rattle.findings.proofs.ModuleLaws.{fore_noted}
use Rattle.findings.proofs.errors.note_fore.Goals as goal

pub returns-clause-notes_fore : goal.returns-clause-notes_fore
returns-clause-notes_fore c = search fore_noted
