-- By what is read.
use Rattle.findings.proofs.PriorityLaws.{priority_got, priority_none}
use Rattle.findings.proofs.priority.priority_at.Goals as goal

pub returns-in_default : goal.returns-in_default
returns-in_default c = search priority_none

pub returns : goal.returns
returns c = search priority_got
