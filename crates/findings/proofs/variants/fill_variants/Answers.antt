use native.Mathlib.Omega.{arith}
use Rattle.findings.proofs.EachLaws.{walk_few}
use Rattle.findings.proofs.VariantLaws.{names_refused, names_start, names_more, names_done}
use Rattle.findings.proofs.variants.fill_variants.Goals as goal

pub returns-in_default-clause-names_filled : goal.returns-in_default-clause-names_filled
returns-in_default-clause-names_filled c = search names_refused

pub loop-j-init : goal.loop-j-init
loop-j-init c = (search walk_few, omega arith, search names_start)

pub loop-j-preserved : goal.loop-j-preserved
loop-j-preserved c = (omega arith, omega arith, search names_more)

pub returns-clause-names_filled : goal.returns-clause-names_filled
returns-clause-names_filled c = search names_done
