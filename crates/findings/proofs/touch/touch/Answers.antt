use native.Mathlib.Omega.{arith}
use Rattle.typing.proofs.LaneLaws.{lane_room}
use Rattle.findings.proofs.TouchLaws.{touching_start, touching_less, touching_more, touching_all}
use Rattle.findings.proofs.touch.touch.Goals as goal

pub bounds-vars-lane_of : goal.bounds-vars-lane_of
bounds-vars-lane_of c = search lane_room

pub loop-p-init : goal.loop-p-init
loop-p-init c = (omega arith, search touching_start)

pub loop-p-smaller : goal.loop-p-smaller
loop-p-smaller c = search touching_less

pub loop-p-preserved : goal.loop-p-preserved
loop-p-preserved c = (omega arith, search touching_more)

pub returns : goal.returns
returns c = search touching_all
