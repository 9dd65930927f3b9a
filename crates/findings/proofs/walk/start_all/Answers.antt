use Rattle.findings.proofs.ReachLaws.{sweep_none, sweep_more, sweep_all}
use Rattle.findings.proofs.walk.start_all.Goals as goal

pub loop-i-init : goal.loop-i-init
loop-i-init c = search sweep_none

pub loop-i-preserved : goal.loop-i-preserved
loop-i-preserved c = search sweep_more

pub returns : goal.returns
returns c = search sweep_all
