-- By the first words of the table.
use Rattle.findings.proofs.DeadLaws.{front_noted}
use Rattle.findings.proofs.dead.note_by_uses.Goals as goal

pub returns-clause-notes_variants : goal.returns-clause-notes_variants
returns-clause-notes_variants c = search front_noted
