-- By the table of the groups.
use Rattle.findings.proofs.DeadLaws.{dead_noted}
use Rattle.findings.proofs.dead.note_dead.Goals as goal

pub returns-clause-notes_dead : goal.returns-clause-notes_dead
returns-clause-notes_dead c = search dead_noted
