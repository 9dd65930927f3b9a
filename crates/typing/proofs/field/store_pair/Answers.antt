-- Past the end a store changes nothing.
use native.Mathlib.Omega.{arith}
use Rattle.typing.proofs.FieldLaws.{pair_out, pair_in}
use Rattle.typing.proofs.field.store_pair.Goals as goal

pub returns-then-table-k : goal.returns-then-table-k
returns-then-table-k c = pair_out _ _ _ _ (omega arith)

pub returns-then-table-k-2 : goal.returns-then-table-k-2
returns-then-table-k-2 c = pair_out _ _ _ _ (omega arith)

pub returns : goal.returns
returns c = search pair_in
