use native.Mathlib.Omega.{arith}
use Rattle.typing.proofs.BlockLaws.{weaves_none, weaves_then, weaves_all}
use Rattle.typing.proofs.block.weave_by.Goals as goal

pub loop-i-init : goal.loop-i-init
loop-i-init c = (search weaves_none, omega arith, omega arith)

pub loop-i-preserved : goal.loop-i-preserved
loop-i-preserved c = (search weaves_then, omega arith, omega arith)

pub returns : goal.returns
returns c = search weaves_all
