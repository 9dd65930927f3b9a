-- None of those passed is the name.
use Rattle.findings.proofs.VariantLaws.{Looking}
use Rattle.findings.proofs.variants.is_listed.Given as goal

abbrev pub invariant-loop-j : goal.invariant-loop-j
invariant-loop-j l = Looking l.doc l.variants l.at l.print l.j
