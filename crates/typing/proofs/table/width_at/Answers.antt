-- By the number that stands there.
use native.Mathlib.Omega.{arith}
use Rattle.typing.proofs.TableLaws.{width_none, width_small, width_is}
use Rattle.typing.proofs.table.width_at.Goals as goal

pub returns-in_default : goal.returns-in_default
returns-in_default c = search width_none

pub overflow_cast-result : goal.overflow_cast-result
overflow_cast-result c = omega (arith, width_small _ _ c.number-r.ensures c.in-Ok.is)

pub returns : goal.returns
returns c = search width_is
