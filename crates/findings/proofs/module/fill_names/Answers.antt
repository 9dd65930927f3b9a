-- Each table is filled from its list.
use native.Mathlib.Omega.{arith}
use Rattle.findings.proofs.ModuleLaws.{names_set}
use Rattle.findings.proofs.module.fill_names.Goals as goal

pub returns : goal.returns
returns c = names_set _ _ _ _ _ (omega arith) (omega arith) c.word.ensures c.fill_block.ensures.keeps c.word-2.ensures c.fill_enums.ensures.keeps_enums c.word-properties.ensures c.word-assumptions.ensures c.fill_claims.ensures
