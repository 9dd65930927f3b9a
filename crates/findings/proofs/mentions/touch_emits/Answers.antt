use Rattle.findings.proofs.MentionLaws.{emits_refused, emits_start, emits_more, emits_done}
use Rattle.findings.proofs.mentions.touch_emits.Goals as goal

pub returns-in_default : goal.returns-in_default
returns-in_default c = search emits_refused

pub loop-i-init : goal.loop-i-init
loop-i-init c = search emits_start

pub loop-i-preserved : goal.loop-i-preserved
loop-i-preserved c = search emits_more

pub returns : goal.returns
returns c = search emits_done
