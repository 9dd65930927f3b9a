-- A pattern without variant, or with one.
use Rattle.findings.proofs.UseLaws.{variant_absent, variant_present}
use Rattle.findings.proofs.uses.add_variant.Goals as goal

pub returns-then-null_at : goal.returns-then-null_at
returns-then-null_at c = search variant_absent

pub returns : goal.returns
returns c = search variant_present
