use native.Mathlib.Omega.{arith}
use Rattle.typing.proofs.BlockLaws.{blocks_start, blocks_none, blocks_hit, blocks_miss}
use Rattle.typing.proofs.block.find.Goals as goal

pub loop-b-init : goal.loop-b-init
loop-b-init c = (omega arith, blocks_start _ _ _)

pub returns-in-Some : goal.returns-in-Some
returns-in-Some c = search blocks_hit

pub loop-b-preserved : goal.loop-b-preserved
loop-b-preserved c = (omega arith, search blocks_miss)

pub returns : goal.returns
returns c = search blocks_none
