-- By the two bytes.
use native.Mathlib.Omega.{arith}
use Rattle.reading.specs.Head.{be2}
use Rattle.reading.proofs.cursor.two.Goals as goal

pub returns : goal.returns
unfolding be2
returns c = omega arith
