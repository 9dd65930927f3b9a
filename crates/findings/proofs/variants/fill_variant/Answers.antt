-- Word by word.
use Rattle.findings.proofs.VariantLaws.{put_variant_lem}
use Rattle.findings.proofs.variants.fill_variant.Goals as goal

pub returns : goal.returns
returns c = search put_variant_lem
