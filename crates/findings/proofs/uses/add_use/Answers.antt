-- By whether the pattern is of the group.
use Rattle.findings.proofs.UseLaws.{use_own, use_other}
use Rattle.findings.proofs.uses.add_use.Goals as goal

pub returns-then-same : goal.returns-then-same
returns-then-same c = search use_own

pub returns : goal.returns
returns c = search use_other
