use Rattle.typing.proofs.Counts.{}
use native.Mathlib.Omega.{arith}
use Rattle.typing.proofs.lanes.is_crowded.Goals as goal

pub overflow_cast-p : goal.overflow_cast-p
overflow_cast-p c = omega (arith, c.type_inv.links c.loop.i)
