-- By the case that stands there.
use native.Mathlib.Omega.{arith}
use Rattle.typing.proofs.AcceptLaws.{enum_none, enum_bool, enum_bit, enum_is}
use Rattle.typing.proofs.pattern.enum_at.Goals as goal

pub returns-in_default : goal.returns-in_default
returns-in_default c = search enum_none

pub returns-in-0 : goal.returns-in-0
returns-in-0 c = search enum_bool

pub returns-in-1 : goal.returns-in-1
returns-in-1 c = search enum_bit

pub returns-in-2-to-18446744073709551615 : goal.returns-in-2-to-18446744073709551615
returns-in-2-to-18446744073709551615 c = enum_is _ _ c.tag-t.ensures c.in-Ok.is (omega arith) (omega arith)
