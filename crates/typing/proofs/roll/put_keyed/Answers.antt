use Rattle.typing.proofs.RollLaws.{keyed_still, keyed_then}
use Rattle.typing.proofs.roll.put_keyed.Goals as goal

pub loop-key-init : goal.loop-key-init
loop-key-init c = search keyed_still

pub returns-then-not-is_dull : goal.returns-then-not-is_dull
returns-then-not-is_dull c = search keyed_then

pub loop-key-preserved : goal.loop-key-preserved
loop-key-preserved c = search keyed_then

pub returns : goal.returns
returns c = search keyed_then
