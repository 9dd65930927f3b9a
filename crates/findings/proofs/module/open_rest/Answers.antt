-- Each field stands after the one before.
use Rattle.findings.proofs.SceneLaws.{rest_opened}
use Rattle.findings.proofs.module.open_rest.Goals as goal

pub returns : goal.returns
returns c = search rest_opened
