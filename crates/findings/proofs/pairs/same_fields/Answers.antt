-- By the places of the names.
use Rattle.findings.proofs.PairTests.{fields_are}
use Rattle.findings.proofs.pairs.same_fields.Goals as goal

pub returns : goal.returns
returns c = search fields_are
