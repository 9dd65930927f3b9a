use Rattle.typing.proofs.Counts.{all_left, some_left, none_left, fewer_left}
use Rattle.typing.proofs.ChainLaws.{leads_start, leads_end, leads_past, leads_over, leads_hit, leads_more}
use Rattle.typing.proofs.roll.roll_start.Goals as goal

pub loop-init : goal.loop-init
loop-init c = rw (all_left _) (search leads_start)

pub returns-then-h-eq0 : goal.returns-then-h-eq0
returns-then-h-eq0 c = search leads_end

pub returns-then-n-h : goal.returns-then-n-h
returns-then-n-h c = search leads_past

pub returns-then-w-p : goal.returns-then-w-p
returns-then-w-p c = search leads_hit

pub loop-preserved : goal.loop-preserved
loop-preserved c = rw (fewer_left _ _) (search (leads_more, some_left))

pub returns : goal.returns
returns c = search (leads_over, none_left)
