-- By the places of the patterns.
use Rattle.findings.proofs.PairTests.{patterns_same}
use Rattle.findings.proofs.pairs.same_pattern.Goals as goal

pub returns : goal.returns
returns c = search patterns_same
