-- States first, then patterns.
use Rattle.findings.proofs.PairTests.{alike_same, alike_other}
use Rattle.findings.proofs.pairs.alike.Goals as goal

pub returns-then-same_fields : goal.returns-then-same_fields
returns-then-same_fields c = search alike_same

pub returns-else-same_fields : goal.returns-else-same_fields
returns-else-same_fields c = rw c.if-same_fields.false (search alike_other)
