use Rattle.findings.proofs.MentionLaws.{args_refused, args_start, args_more, args_done}
use Rattle.findings.proofs.mentions.touch_args.Goals as goal

pub returns-in_default : goal.returns-in_default
returns-in_default c = search args_refused

pub loop-i-init : goal.loop-i-init
loop-i-init c = search args_start

pub loop-i-preserved : goal.loop-i-preserved
loop-i-preserved c = search args_more

pub returns : goal.returns
returns c = search args_done
