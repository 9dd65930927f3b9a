-- The byte, which is below 256.
use native.Mathlib.Omega.{arith}
use Rattle.reading.specs.Head.{be1}
use Rattle.reading.proofs.cursor.one.Goals as goal

pub returns : goal.returns
unfolding be1
returns c = omega (arith, c.type_inv.doc c.args.at)
