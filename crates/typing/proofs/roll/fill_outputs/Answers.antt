use mathlib.Core.Path.{refl}
use native.Mathlib.Omega.{arith}
use Rattle.typing.proofs.FillLaws.{rolling_start, rolling_more, rolling_done}
use Rattle.typing.proofs.roll.fill_outputs.Goals as goal

pub bounds-table-0 : goal.bounds-table-0
bounds-table-0 c = let l = c.fill_roll-q.ensures.puts_roll.size in omega arith

pub loop-k-init : goal.loop-k-init
loop-k-init c = let f = c.fill_roll-q.ensures in rolling_start _ _ _ f.puts_roll (f.result_nonzero refl (omega arith)) refl

pub loop-k-preserved : goal.loop-k-preserved
loop-k-preserved c = search rolling_more

pub returns : goal.returns
returns c = let f = c.fill_roll-q.ensures in rolling_done _ _ _ c.loop-k.invariant f.puts_roll (f.result_nonzero refl (omega arith)) (omega arith)
