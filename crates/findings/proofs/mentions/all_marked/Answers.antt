use Rattle.findings.proofs.TouchLaws.{some_free, marked_start, marked_more, all_marked}
use Rattle.findings.proofs.mentions.all_marked.Goals as goal

pub returns-then-marks-count : goal.returns-then-marks-count
returns-then-marks-count c = search some_free

pub loop-k-init : goal.loop-k-init
loop-k-init c = search marked_start

pub returns-then-marks-k-ne1 : goal.returns-then-marks-k-ne1
returns-then-marks-k-ne1 c = search some_free

pub loop-k-preserved : goal.loop-k-preserved
loop-k-preserved c = search marked_more

pub returns : goal.returns
returns c = search all_marked
