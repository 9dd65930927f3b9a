-- By the places of the names.
use Rattle.findings.proofs.OrderLaws.{states_earlier}
use Rattle.findings.proofs.order.earlier_state.Goals as goal

pub returns : goal.returns
returns c = search states_earlier
