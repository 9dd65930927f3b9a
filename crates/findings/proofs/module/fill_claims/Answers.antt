-- The second table stands after the first.
use Rattle.findings.proofs.ClaimTables.{claims_set}
use Rattle.findings.proofs.module.fill_claims.Goals as goal

pub returns : goal.returns
returns c = search claims_set
