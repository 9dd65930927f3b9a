use Rattle.findings.proofs.LinkLaws.{fewer, forth_start, forth_more}
use Rattle.findings.proofs.links.next_free.Goals as goal

pub loop-i-init : goal.loop-i-init
loop-i-init c = search forth_start

pub loop-i-smaller : goal.loop-i-smaller
loop-i-smaller c = search fewer

pub loop-i-preserved : goal.loop-i-preserved
loop-i-preserved c = search forth_more
