use Rattle.findings.proofs.VariantLaws.{look_start, look_other, look_found, look_done}
use Rattle.findings.proofs.variants.is_listed.Goals as goal

pub loop-j-init : goal.loop-j-init
loop-j-init c = search look_start

pub returns-then-stands_at : goal.returns-then-stands_at
returns-then-stands_at c = search look_found

pub loop-j-preserved : goal.loop-j-preserved
loop-j-preserved c = search look_other

pub returns : goal.returns
returns c = search look_done
