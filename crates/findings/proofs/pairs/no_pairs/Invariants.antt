-- No two of those passed have one key, and their remainders are seen.
use Rattle.findings.proofs.RivalLaws.{PairsLeft}
use Rattle.findings.proofs.pairs.no_pairs.Given as goal

abbrev pub invariant-loop-i : goal.invariant-loop-i
invariant-loop-i l = PairsLeft l.prints l.count l.i l.seen
