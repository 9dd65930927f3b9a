-- By the two halves.
use native.Mathlib.Omega.{arith}
use Rattle.reading.specs.Head.{be8}
use Rattle.reading.proofs.cursor.eight.Goals as goal

pub returns : goal.returns
unfolding be8
returns c = omega arith
