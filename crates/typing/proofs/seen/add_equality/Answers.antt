-- Both words are new, and the others stay.
use native.Mathlib.Omega.{arith}
use lib.ListN.{length-set}
use Rattle.typing.proofs.LaneLaws.{pair_lanes}
use Rattle.typing.proofs.SeenLaws.{pair_added}
use Rattle.typing.proofs.seen.add_equality.Goals as goal

pub bounds-table-k-2 : goal.bounds-table-k-2
bounds-table-k-2 c = simp length-set (omega arith)

pub lane_add-requires-clause-lanes : goal.lane_add-requires-clause-lanes
lane_add-requires-clause-lanes c = search pair_lanes

pub lane_add-requires-clause-k_in_bounds : goal.lane_add-requires-clause-k_in_bounds
lane_add-requires-clause-k_in_bounds c = simp length-set (omega arith)

pub returns : goal.returns
returns c = search pair_added
