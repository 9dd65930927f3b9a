-- Where place i is not marked, by the names.
use Rattle.findings.proofs.OrderLaws.{better_marked, better_none, better_new, better_old}
use Rattle.findings.proofs.order.better.Goals as goal
use Rattle.findings.proofs.order.better.Goals.{then-count-b-via-then-count-b, then-count-b-via-else-count-b+then-earlier_state}

pub returns-then-done-i-ne0 : goal.returns-then-done-i-ne0
returns-then-done-i-ne0 c = search better_marked

pub returns-then-count-b : goal.returns-then-count-b
returns-then-count-b c = elim c.then-count-b.branch [
  | then-count-b-via-then-count-b w ↦ search better_none
  | then-count-b-via-else-count-b+then-earlier_state w ↦ search better_new
]

pub returns : goal.returns
returns c = search better_old
