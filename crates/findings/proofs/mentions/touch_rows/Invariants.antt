-- Row by row.
use Rattle.findings.proofs.MentionLaws.{RowsLeft}
use Rattle.findings.proofs.mentions.touch_rows.Given as goal

abbrev pub invariant-loop-i : goal.invariant-loop-i
invariant-loop-i l = RowsLeft l.vars.doc.now l.rows l.vars.names.now l.initial.marks l.count l.i l.marks
