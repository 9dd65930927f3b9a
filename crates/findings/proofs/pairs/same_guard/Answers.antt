-- By the places of the guards.
use Rattle.findings.proofs.PairTests.{guards_same}
use Rattle.findings.proofs.pairs.same_guard.Goals as goal

pub returns : goal.returns
returns c = search guards_same
