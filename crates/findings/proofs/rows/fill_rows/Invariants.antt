-- What is still to come, put from the next row on, makes the whole table.
use Rattle.findings.proofs.RowLaws.{RowsLeft}
use Rattle.findings.proofs.rows.fill_rows.Given as goal

abbrev pub invariant-loop-i : goal.invariant-loop-i
invariant-loop-i l = RowsLeft l.doc l.at l.initial.table l.count l.i l.k l.table
