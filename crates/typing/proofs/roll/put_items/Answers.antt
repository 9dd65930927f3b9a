use native.Mathlib.Omega.{arith}
use lib.ListN.{length-set}
use Rattle.typing.proofs.RollLaws.{list_start, list_more, list_done}
use Rattle.typing.proofs.roll.put_items.Goals as goal

pub loop-i-init : goal.loop-i-init
loop-i-init c = search list_start

pub bounds-table-q-in-loop-i : goal.bounds-table-q-in-loop-i
bounds-table-q-in-loop-i c = simp length-set (omega arith)

pub loop-i-preserved : goal.loop-i-preserved
loop-i-preserved c = search list_more

pub returns : goal.returns
returns c = search list_done
