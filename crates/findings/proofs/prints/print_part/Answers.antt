-- By the bytes that are handed out.
use native.Mathlib.Omega.{arith}
use Rattle.findings.proofs.PrintLaws.{print_as}
use Rattle.findings.proofs.prints.print_part.Goals as goal

pub returns : goal.returns
returns c = record { is = search print_as; each = λ i. omega (arith, c.type_inv.doc i) }
