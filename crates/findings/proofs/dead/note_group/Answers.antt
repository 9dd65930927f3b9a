-- By the names that its patterns give.
use Rattle.findings.proofs.DeadLaws.{group_noted}
use Rattle.findings.proofs.dead.note_group.Goals as goal

pub returns-clause-notes_group : goal.returns-clause-notes_group
returns-clause-notes_group c = search group_noted
