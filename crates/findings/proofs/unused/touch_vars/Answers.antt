-- All lanes are empty at first; either way touches all.
use Rattle.typing.proofs.LaneLaws.{no_lanes}
use Rattle.findings.proofs.unused.touch_vars.Goals as goal

pub add_all-requires-clause-lanes : goal.add_all-requires-clause-lanes
add_all-requires-clause-lanes c = no_lanes _ _ _
