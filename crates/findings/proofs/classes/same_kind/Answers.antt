-- States and patterns first, then priorities.
use Rattle.findings.proofs.FirstLaws.{kind_pair, kind_unlike}
use Rattle.findings.proofs.classes.same_kind.Goals as goal

pub returns-then-alike : goal.returns-then-alike
returns-then-alike c = search kind_pair

pub returns-else-alike : goal.returns-else-alike
returns-else-alike c = rw c.if-alike.false (search kind_unlike)
