-- None of those passed has the key.
use Rattle.findings.proofs.RivalLaws.{RivalLeft}
use Rattle.findings.proofs.pairs.has_rival.Given as goal

abbrev pub invariant-loop-j : goal.invariant-loop-j
invariant-loop-j l = RivalLeft l.prints l.count l.i l.j
