-- What the walk wrote and counted.
use Rattle.findings.proofs.ReplyLaws.{by_kind}
use Rattle.findings.proofs.call.kinds.Goals as goal

pub returns-clause-by_kind : goal.returns-clause-by_kind
returns-clause-by_kind c = search by_kind
