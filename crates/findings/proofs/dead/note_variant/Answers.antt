-- By whether it is used.
use Rattle.findings.proofs.DeadLaws.{variant_noted}
use Rattle.findings.proofs.dead.note_variant.Goals as goal

pub returns-clause-notes_variant : goal.returns-clause-notes_variant
returns-clause-notes_variant c = search variant_noted
