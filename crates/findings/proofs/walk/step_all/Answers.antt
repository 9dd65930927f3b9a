-- By the lane of the state that p leads to.
use Rattle.findings.proofs.LinkLaws.{heads_at, heads_more}
use Rattle.findings.proofs.walk.step_all.Goals as goal

pub follow-t-requires-clause-ahead : goal.follow-t-requires-clause-ahead
follow-t-requires-clause-ahead c = search heads_at

pub returns-clause-heads_2 : goal.returns-clause-heads_2
returns-clause-heads_2 c = search heads_more
