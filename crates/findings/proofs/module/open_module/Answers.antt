-- The first fields, the rest, then the groups.
use Rattle.findings.proofs.SceneLaws.{opened}
use Rattle.findings.proofs.module.open_module.Goals as goal

pub returns : goal.returns
returns c = search opened
