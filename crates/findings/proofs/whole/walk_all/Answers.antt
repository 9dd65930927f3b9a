-- The modules stand after the version.
use Rattle.findings.proofs.WalkLaws.{all_walked}
use Rattle.findings.proofs.whole.walk_all.Goals as goal

pub returns-clause-walks_all : goal.returns-clause-walks_all
returns-clause-walks_all c = search all_walked
