-- One after another.
use Rattle.findings.proofs.ModuleLaws.{claims_few}
use Rattle.findings.proofs.whole.name_module.Goals as goal

pub returns-clause-claims_bound : goal.returns-clause-claims_bound
returns-clause-claims_bound c = search claims_few
