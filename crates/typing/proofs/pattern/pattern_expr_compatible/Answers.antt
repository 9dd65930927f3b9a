-- By the case that stands there.
use native.Mathlib.Omega.{arith}
use Rattle.typing.proofs.AcceptLaws.{accepts_none, accepts_wildcard, accepts_bind, accepts_int, accepts_bool, accepts_path, accepts_beyond}
use Rattle.typing.proofs.pattern.pattern_expr_compatible.Goals as goal

pub returns-in_default : goal.returns-in_default
returns-in_default c = search accepts_none

pub returns-in-0 : goal.returns-in-0
returns-in-0 c = search accepts_wildcard

pub returns-in-1 : goal.returns-in-1
returns-in-1 c = search accepts_bind

pub returns-in-2 : goal.returns-in-2
returns-in-2 c = search accepts_int

pub returns-in-3 : goal.returns-in-3
returns-in-3 c = search accepts_bool

pub returns-in-4 : goal.returns-in-4
returns-in-4 c = search accepts_path

pub returns-in-5-to-18446744073709551615 : goal.returns-in-5-to-18446744073709551615
returns-in-5-to-18446744073709551615 c = accepts_beyond _ _ _ c.tag-t.ensures c.in-Ok.is _ (omega arith)
