use Rattle.findings.proofs.RowLaws.{rows_refused, rows_start, rows_more, rows_done}
use Rattle.findings.proofs.rows.fill_rows.Goals as goal

pub returns-in_default : goal.returns-in_default
returns-in_default c = search rows_refused

pub loop-i-init : goal.loop-i-init
loop-i-init c = search rows_start

pub loop-i-preserved : goal.loop-i-preserved
loop-i-preserved c = search rows_more

pub returns : goal.returns
returns c = search rows_done
