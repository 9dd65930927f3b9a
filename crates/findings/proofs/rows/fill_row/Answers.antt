use Rattle.findings.proofs.RowLaws.{row_start, row_more, row_ends, row_filled}
use Rattle.findings.proofs.rows.fill_row.Goals as goal

pub loop-f-init : goal.loop-f-init
loop-f-init c = search row_start

pub loop-f-preserved : goal.loop-f-preserved
loop-f-preserved c = search row_more

pub returns-clause-value : goal.returns-clause-value
returns-clause-value c = search row_ends

pub returns-clause-table_after : goal.returns-clause-table_after
returns-clause-table_after c = search row_filled
