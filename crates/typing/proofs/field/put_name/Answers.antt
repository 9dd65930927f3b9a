-- By the byte where its name would stand: the table stays, or both words of a pair are new.
use native.Mathlib.Omega.{arith}
use lib.ListN.{length-set}
use Rattle.typing.proofs.LaneLaws.{pair_lanes}
use Rattle.typing.proofs.ApartLaws.{put_none, put_more}
use Rattle.typing.proofs.field.put_name.Goals as goal

pub returns-then-null_at : goal.returns-then-null_at
returns-then-null_at c = search put_none

pub bounds-names-m-2 : goal.bounds-names-m-2
bounds-names-m-2 c = simp length-set (omega arith)

pub lane_add-requires-clause-lanes : goal.lane_add-requires-clause-lanes
lane_add-requires-clause-lanes c = search pair_lanes

pub lane_add-requires-clause-k_in_bounds : goal.lane_add-requires-clause-k_in_bounds
lane_add-requires-clause-k_in_bounds c = simp length-set (omega arith)

pub returns : goal.returns
returns c = search put_more
