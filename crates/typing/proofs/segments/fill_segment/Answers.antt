-- None where the variants are few, or have no room or a far place; else their words, and before these how many and by which key.
use Prim.Native.Nat.{◌<◌}
use native.Mathlib.Omega.{arith}
use Rattle.typing.proofs.SegmentLaws.{segment_empty, segment_stops, segment_done, key_small}
use Rattle.typing.proofs.segments.fill_segment.Goals as goal

pub returns-then-many-lt17 : goal.returns-then-many-lt17
returns-then-many-lt17 c = search segment_empty

pub returns-then-table-q : goal.returns-then-table-q
returns-then-table-q c = search segment_empty

pub returns-in_default : goal.returns-in_default
returns-in_default c = search segment_stops

pub overflow_mul-table : goal.overflow_mul-table
overflow_mul-table c = let l : c.in-Some.key < 8 = search key_small in omega arith

pub overflow_add-table : goal.overflow_add-table
overflow_add-table c = let l : c.in-Some.key < 8 = search key_small in omega arith

pub returns : goal.returns
returns c = search segment_done
