use mathlib.Core.Path.{refl}
use native.Mathlib.Omega.{arith}
use borrow.Author.Rules.{rules}
use Rattle.typing.proofs.LaneLaws.{cleared_lanes, lanes_all}
use Rattle.typing.proofs.lanes.lane_all.Goals as goal

pub loop-i-init : goal.loop-i-init
loop-i-init c = (search cleared_lanes, omega arith, omega arith, refl)

pub loop-i-preserved : goal.loop-i-preserved
loop-i-preserved c = (search rules, omega arith, omega arith, omega arith)

pub returns-clause-lanes : goal.returns-clause-lanes
returns-clause-lanes c = search lanes_all
