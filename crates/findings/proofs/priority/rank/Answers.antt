-- By whether it is null.
use Rattle.findings.proofs.PriorityLaws.{rank_none, rank_given}
use Rattle.findings.proofs.priority.rank.Goals as goal

pub returns-then-null_at : goal.returns-then-null_at
returns-then-null_at c = search rank_none

pub returns : goal.returns
returns c = search rank_given
