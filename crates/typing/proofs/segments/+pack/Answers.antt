use native.Mathlib.Omega.{arith}
use Rattle.typing.proofs.SegmentLaws.{pack_none, pack_more, packs_small}
use Rattle.typing.proofs.segments.+pack.Goals as goal

pub returns-then-many-eq0 : goal.returns-then-many-eq0
returns-then-many-eq0 t c = search pack_none

pub overflow_mul-result : goal.overflow_mul-result
overflow_mul-result t c = omega (arith, packs_small 5 c.pack-rest.ensures (omega arith))

pub overflow_add-result : goal.overflow_add-result
overflow_add-result t c = omega (arith, packs_small 5 c.pack-rest.ensures (omega arith))

pub returns : goal.returns
returns t c = search pack_more
