-- After the head, the name and the type.
use Rattle.findings.proofs.OpeningLaws.{init_place}
use Rattle.findings.proofs.opening.init_at.Goals as goal

pub returns : goal.returns
returns c = search init_place
