-- By what is found in the pairs before.
use Rattle.findings.proofs.ClaimLaws.{earlier_some}
use Rattle.findings.proofs.claims.stands_earlier.Goals as goal

pub returns : goal.returns
returns c = search earlier_some
