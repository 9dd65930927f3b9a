use Rattle.findings.proofs.LinkLaws.{fewer, lane_start, lane_queued, lane_more, lane_done}
use Rattle.findings.proofs.walk.follow.Goals as goal

pub loop-i-init : goal.loop-i-init
loop-i-init c = search lane_start

pub step_one-t-requires-clause-queued : goal.step_one-t-requires-clause-queued
step_one-t-requires-clause-queued c = search lane_queued

pub loop-i-smaller : goal.loop-i-smaller
loop-i-smaller c = search fewer

pub loop-i-preserved : goal.loop-i-preserved
loop-i-preserved c = search lane_more

pub returns : goal.returns
returns c = search lane_done
