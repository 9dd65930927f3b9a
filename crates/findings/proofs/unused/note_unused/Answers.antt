-- The variables are marked, and the others are noted.
use Rattle.findings.proofs.UnusedLaws.{unused_noted}
use Rattle.findings.proofs.unused.note_unused.Goals as goal

pub returns-clause-notes_unused : goal.returns-clause-notes_unused
returns-clause-notes_unused c = search unused_noted
