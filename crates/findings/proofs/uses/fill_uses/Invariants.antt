-- Row by row.
use Rattle.findings.proofs.UseLaws.{UsesLeft}
use Rattle.findings.proofs.uses.fill_uses.Given as goal

abbrev pub invariant-loop-i : goal.invariant-loop-i
invariant-loop-i l = UsesLeft l.doc l.rows l.count l.group l.table l.i l.u
