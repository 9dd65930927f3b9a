use Rattle.findings.proofs.RivalLaws.{rival_start, rival_skip, rival_found, rival_missing}
use Rattle.findings.proofs.pairs.has_rival.Goals as goal

pub loop-j-init : goal.loop-j-init
loop-j-init c = search rival_start

pub returns-then-prints-k : goal.returns-then-prints-k
returns-then-prints-k c = search rival_found

pub loop-j-preserved : goal.loop-j-preserved
loop-j-preserved c = search rival_skip

pub returns : goal.returns
returns c = search rival_missing
