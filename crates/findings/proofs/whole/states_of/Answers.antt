-- The enums stand in the fourth place.
use Rattle.findings.proofs.ModuleLaws.{states_at}
use Rattle.findings.proofs.whole.states_of.Goals as goal

pub returns : goal.returns
returns c = search states_at
