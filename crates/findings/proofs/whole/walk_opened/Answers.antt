-- The tables of names, then both walks.
use Rattle.findings.proofs.ModuleLaws.{module_walked}
use Rattle.findings.proofs.whole.walk_opened.Goals as goal

pub returns-clause-walks_module : goal.returns-clause-walks_module
returns-clause-walks_module c = search module_walked
