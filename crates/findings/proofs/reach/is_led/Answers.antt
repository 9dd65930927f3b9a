use Rattle.findings.proofs.UnledLaws.{led_first, hits_start, hits_hit, hits_miss, hits_done}
use Rattle.findings.proofs.reach.is_led.Goals as goal

pub returns-then-same_name : goal.returns-then-same_name
returns-then-same_name c = search led_first

pub loop-i-init : goal.loop-i-init
loop-i-init c = search hits_start

pub returns-then-is_hit : goal.returns-then-is_hit
returns-then-is_hit c = search hits_hit

pub loop-i-preserved : goal.loop-i-preserved
loop-i-preserved c = search hits_miss

pub returns : goal.returns
returns c = search hits_done
