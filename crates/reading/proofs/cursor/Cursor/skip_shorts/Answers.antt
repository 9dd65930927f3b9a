use mathlib.Core.Path.{refl}
use native.Mathlib.Omega.{arith}
use Rattle.reading.proofs.Passes.{short_on, short_less, short_room, short_past}
use Rattle.reading.proofs.cursor.Cursor.skip_shorts.Goals as goal

pub returns-then-len-at-clause-at_value : goal.returns-then-len-at-clause-at_value
returns-then-len-at-clause-at_value c = refl

pub returns-then-len-at-2-clause-at_value : goal.returns-then-len-at-2-clause-at_value
returns-then-len-at-2-clause-at_value c = refl

pub loop-left-init : goal.loop-left-init
loop-left-init c = (refl, (omega arith, omega arith))

pub loop-left-smaller : goal.loop-left-smaller
loop-left-smaller c = search short_less

pub loop-left-preserved : goal.loop-left-preserved
loop-left-preserved c = (search short_on, (search short_room, search short_past))
