use Rattle.findings.proofs.LoneLaws.{unmarking_start, unmarking_more, unmarking_done}
use Rattle.findings.proofs.classes.lone.Goals as goal

pub loop-i-init : goal.loop-i-init
loop-i-init c = search unmarking_start

pub loop-i-preserved : goal.loop-i-preserved
loop-i-preserved c = search unmarking_more

pub returns : goal.returns
returns c = search unmarking_done
