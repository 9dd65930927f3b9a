-- The tables, then both walks.
use Rattle.findings.proofs.ModuleLaws.{named_walked}
use Rattle.findings.proofs.whole.walk_named.Goals as goal

pub returns-clause-walks_named : goal.returns-clause-walks_named
returns-clause-walks_named c = search named_walked
