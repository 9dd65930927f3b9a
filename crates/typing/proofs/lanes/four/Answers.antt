-- A byte is below 2 ^ 8.
use Prim.Native.Nat.{◌+◌}
use native.Mathlib.Omega.{arith}
use Rattle.typing.proofs.lanes.four.Goals as goal

pub overflow_cast-a : goal.overflow_cast-a
overflow_cast-a c = let i = c.args.i in let g = c.type_inv.bytes in omega (arith, g i)

pub overflow_cast-a-2 : goal.overflow_cast-a-2
overflow_cast-a-2 c = let i = c.args.i in let g = c.type_inv.bytes in omega (arith, g (i + 1))

pub overflow_mul-a : goal.overflow_mul-a
overflow_mul-a c = let i = c.args.i in let g = c.type_inv.bytes in omega (arith, g (i + 1))

pub overflow_add-a-2 : goal.overflow_add-a-2
overflow_add-a-2 c = let i = c.args.i in let g = c.type_inv.bytes in omega (arith, g i, g (i + 1))

pub overflow_cast-b : goal.overflow_cast-b
overflow_cast-b c = let i = c.args.i in let g = c.type_inv.bytes in omega (arith, g (i + 2))

pub overflow_cast-b-2 : goal.overflow_cast-b-2
overflow_cast-b-2 c = let i = c.args.i in let g = c.type_inv.bytes in omega (arith, g (i + 2), g (i + 3))

pub overflow_mul-b : goal.overflow_mul-b
overflow_mul-b c = let i = c.args.i in let g = c.type_inv.bytes in omega (arith, g (i + 2), g (i + 3))

pub overflow_add-b-3 : goal.overflow_add-b-3
overflow_add-b-3 c = let i = c.args.i in let g = c.type_inv.bytes in omega (arith, g (i + 2), g (i + 3))

pub overflow_mul-result : goal.overflow_mul-result
overflow_mul-result c = let i = c.args.i in let g = c.type_inv.bytes in omega (arith, g (i + 2), g (i + 3))

pub overflow_add-result : goal.overflow_add-result
overflow_add-result c = let i = c.args.i in let g = c.type_inv.bytes in omega (arith, g i, g (i + 1), g (i + 2), g (i + 3))
