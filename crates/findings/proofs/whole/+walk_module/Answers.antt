use native.Mathlib.Omega.{arith}
use Rattle.findings.proofs.whole.+walk_module.Goals as goal

pub shape_of-places-then-outgrows : goal.shape_of-places-then-outgrows
shape_of-places-then-outgrows t c = omega (arith, c.places-then-outgrows-1.given, c.places-1.given)

pub shape_of-places : goal.shape_of-places
shape_of-places t c = omega (arith, c.places-1.given)
