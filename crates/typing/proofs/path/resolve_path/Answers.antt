-- By the number of names.
use native.Mathlib.Omega.{arith}
use Rattle.typing.proofs.PathLaws.{path_none, path_empty, path_one, path_long}
use Rattle.typing.proofs.path.resolve_path.Goals as goal

pub returns-in_default : goal.returns-in_default
returns-in_default c = search path_none

pub returns-in-0 : goal.returns-in-0
returns-in-0 c = search path_empty

pub returns-in-1 : goal.returns-in-1
returns-in-1 c = search path_one

pub returns-in_default-segments : goal.returns-in_default-segments
returns-in_default-segments c = path_long _ _ _ _ _ c.count-r.ensures c.in-Ok.is _ (λ i. omega (arith, c.type_inv.doc i)) (omega arith) (omega arith) c.resolve_variant.ensures
