-- By which are null.
use Rattle.findings.proofs.PriorityLaws.{priority_first, priority_second, priority_given}
use Rattle.findings.proofs.priority.same_priority.Goals as goal

pub returns-then-null_at : goal.returns-then-null_at
returns-then-null_at c = search priority_first

pub returns-else-not-null_at : goal.returns-else-not-null_at
returns-else-not-null_at c = rw c.if-not-null_at.false (search priority_second)

pub returns-then-not-null_at : goal.returns-then-not-null_at
returns-then-not-null_at c = search priority_given
