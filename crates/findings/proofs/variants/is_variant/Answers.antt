-- The one that is hinted at, or any.
use Rattle.findings.proofs.VariantLaws.{hint_is}
use Rattle.findings.proofs.variants.is_variant.Goals as goal

pub returns-then-is_hinted : goal.returns-then-is_hinted
returns-then-is_hinted c = rw c.if-is_hinted.true (search hint_is)
