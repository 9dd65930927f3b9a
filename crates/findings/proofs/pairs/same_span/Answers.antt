-- By the parts that are handed out.
use native.Mathlib.Omega.{arith}
use Rattle.findings.proofs.PairTests.{spans_are}
use Rattle.findings.proofs.pairs.same_span.Goals as goal

pub returns : goal.returns
returns c = record { is = search spans_are; each = λ i. omega (arith, c.type_inv.doc i) }
