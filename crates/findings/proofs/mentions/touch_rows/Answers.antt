use Rattle.findings.proofs.MentionLaws.{rows_start, rows_more, rows_full, rows_done}
use Rattle.findings.proofs.mentions.touch_rows.Goals as goal

pub loop-i-init : goal.loop-i-init
loop-i-init c = search rows_start

pub returns-then-all_marked : goal.returns-then-all_marked
returns-then-all_marked c = search rows_full

pub loop-i-preserved : goal.loop-i-preserved
loop-i-preserved c = search rows_more

pub returns : goal.returns
returns c = search rows_done
