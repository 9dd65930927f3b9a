use mathlib.Core.Path.{refl}
use native.Mathlib.Omega.{arith}
use borrow.Author.Rules.{rules}
use Rattle.findings.proofs.EachLaws.{count_start}
use Rattle.findings.proofs.ClaimLaws.{formulas_more, formulas_done}
use Rattle.findings.proofs.claims.note_formulas.Goals as goal

pub loop-i-init : goal.loop-i-init
loop-i-init c = (search count_start, refl, omega arith)

pub loop-i-preserved : goal.loop-i-preserved
loop-i-preserved c = (search formulas_more, search rules, omega arith)

pub returns-clause-notes_formulas : goal.returns-clause-notes_formulas
returns-clause-notes_formulas c = search formulas_done
