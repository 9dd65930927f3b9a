-- By whether the name is a State variant.
use Rattle.findings.proofs.VariantLaws.{variant_noted}
use Rattle.findings.proofs.variants.note_variant.Goals as goal

pub returns-clause-notes_variant : goal.returns-clause-notes_variant
returns-clause-notes_variant c = search variant_noted
