-- By what its lane has: the table stays, or both words of a pair are new.
use native.Mathlib.Omega.{arith}
use lib.ListN.{length-set}
use Rattle.typing.proofs.LaneLaws.{pair_lanes}
use Rattle.findings.proofs.OnceLaws.{name_known, name_new}
use Rattle.findings.proofs.once.gather_name.Goals as goal

pub returns-in_default-clause-gathers_name : goal.returns-in_default-clause-gathers_name
returns-in_default-clause-gathers_name c = search name_known

pub bounds-once-m-2 : goal.bounds-once-m-2
bounds-once-m-2 c = simp length-set (omega arith)

pub lane_add-requires-clause-lanes : goal.lane_add-requires-clause-lanes
lane_add-requires-clause-lanes c = search pair_lanes

pub lane_add-requires-clause-k_in_bounds : goal.lane_add-requires-clause-k_in_bounds
lane_add-requires-clause-k_in_bounds c = simp length-set (omega arith)

pub returns-clause-gathers_name : goal.returns-clause-gathers_name
returns-clause-gathers_name c = search name_new
