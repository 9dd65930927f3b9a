use Rattle.findings.proofs.OrderLaws.{seek_start, seek_more, seek_done, seek_none}
use Rattle.findings.proofs.order.next_state.Goals as goal

pub loop-i-init : goal.loop-i-init
loop-i-init c = search seek_start

pub loop-i-preserved : goal.loop-i-preserved
loop-i-preserved c = search seek_more

pub returns-then-b-count-clause-next_state : goal.returns-then-b-count-clause-next_state
returns-then-b-count-clause-next_state c = search seek_done

pub returns-else-b-count-clause-next_state : goal.returns-else-b-count-clause-next_state
returns-else-b-count-clause-next_state c = search seek_none
