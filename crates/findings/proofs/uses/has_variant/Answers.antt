-- By the first of the name.
use Rattle.findings.proofs.UseLaws.{variant_nowhere, variant_some}
use Rattle.findings.proofs.uses.has_variant.Goals as goal

pub returns-in_default : goal.returns-in_default
returns-in_default c = search variant_nowhere

pub returns : goal.returns
returns c = search variant_some
