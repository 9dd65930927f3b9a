-- By the two halves.
use native.Mathlib.Omega.{arith}
use Rattle.reading.specs.Head.{be4}
use Rattle.reading.proofs.cursor.four.Goals as goal

pub returns : goal.returns
unfolding be4
returns c = omega arith
