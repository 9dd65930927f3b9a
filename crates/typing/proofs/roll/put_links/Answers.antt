use native.Mathlib.Omega.{arith}
use Rattle.typing.proofs.ChainLaws.{links_start, links_more, links_done}
use Rattle.typing.proofs.roll.put_links.Goals as goal

pub loop-i-init : goal.loop-i-init
loop-i-init c = search links_start

pub overflow_cast-links : goal.overflow_cast-links
overflow_cast-links c = omega (arith, c.type_inv.hints c.loop-i.i)

pub overflow_cast-links-in-loop-i : goal.overflow_cast-links-in-loop-i
overflow_cast-links-in-loop-i c = omega (arith, c.type_inv.nexts c.loop-i.i)

pub overflow_mul-links : goal.overflow_mul-links
overflow_mul-links c = omega (arith, c.type_inv.nexts c.loop-i.i)

pub overflow_add-links : goal.overflow_add-links
overflow_add-links c = let i = c.loop-i.i in omega (arith, c.type_inv.hints i, c.type_inv.nexts i)

pub overflow_mul-table : goal.overflow_mul-table
overflow_mul-table c = let i = c.loop-i.i in omega (arith, c.type_inv.hints i, c.type_inv.nexts i)

pub overflow_add-table-in-loop-i : goal.overflow_add-table-in-loop-i
overflow_add-table-in-loop-i c = let i = c.loop-i.i in omega (arith, c.type_inv.hints i, c.type_inv.nexts i)

pub loop-i-preserved : goal.loop-i-preserved
loop-i-preserved c = let l = c.loop-i in links_more _ _ _ _ _ l.invariant (omega arith) (omega arith) (omega (arith, c.type_inv.hints l.i)) (omega (arith, c.type_inv.nexts l.i))

pub returns : goal.returns
returns c = search links_done
