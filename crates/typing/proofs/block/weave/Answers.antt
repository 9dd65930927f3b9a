use native.Mathlib.Omega.{arith}
use Rattle.typing.proofs.BlockLaws.{weaves_still, weaves_then}
use Rattle.typing.proofs.block.weave.Goals as goal

pub loop-key-init : goal.loop-key-init
loop-key-init c = (search weaves_still, omega arith)

pub returns-then-not-crowded : goal.returns-then-not-crowded
returns-then-not-crowded c = search weaves_then

pub loop-key-preserved : goal.loop-key-preserved
loop-key-preserved c = (search weaves_then, omega arith)

pub returns : goal.returns
returns c = search weaves_then
