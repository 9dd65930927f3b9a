use Rattle.findings.proofs.MentionLaws.{sets_refused, sets_start, sets_more, sets_done}
use Rattle.findings.proofs.mentions.touch_sets.Goals as goal

pub returns-in_default : goal.returns-in_default
returns-in_default c = search sets_refused

pub loop-i-init : goal.loop-i-init
loop-i-init c = search sets_start

pub loop-i-preserved : goal.loop-i-preserved
loop-i-preserved c = search sets_more

pub returns : goal.returns
returns c = search sets_done
