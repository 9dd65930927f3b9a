-- A head of two bytes, or any.
use Prim.Native.Nat.{◌+◌}
use native.Mathlib.Omega.{arith}
use Rattle.reading.proofs.Short.{tag_short}
use Rattle.reading.proofs.cursor.Cursor.tag.Goals as goal

pub overflow_cast-result-then-tag_head : goal.overflow_cast-result-then-tag_head
overflow_cast-result-then-tag_head c = omega (arith, c.type_inv.doc (c.args.self.at + 1))

pub returns-then-tag_head : goal.returns-then-tag_head
returns-then-tag_head c = search tag_short
