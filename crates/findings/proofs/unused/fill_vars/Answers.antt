-- The pairs of the list.
use native.Mathlib.Omega.{arith}
use Rattle.findings.proofs.UnusedLaws.{vars_filled}
use Rattle.findings.proofs.unused.fill_vars.Goals as goal

pub returns-clause-vars_filled : goal.returns-clause-vars_filled
returns-clause-vars_filled c = vars_filled _ _ c.fill_table.ensures.filled (λ i. omega (arith, c.type_inv.doc i)) (omega arith)
