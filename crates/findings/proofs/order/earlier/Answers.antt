use mathlib.Core.Path.{◌≡◌, refl}
use native.Mathlib.Omega.{arith}
use lib.ListN.{length}
use Rattle.findings.proofs.OrderLaws.{earlier_short, earlier_differ, earlier_more, earlier_done}
use Rattle.findings.proofs.order.earlier.Goals as goal

pub loop-i-init : goal.loop-i-init
loop-i-init c = refl

pub returns-then-b-i : goal.returns-then-b-i
returns-then-b-i c = search earlier_short

pub returns-then-a-i : goal.returns-then-a-i
returns-then-a-i c = search earlier_differ

pub loop-i-preserved : goal.loop-i-preserved
loop-i-preserved c = search earlier_more

pub returns : goal.returns
returns c = let e : length c.args.a.now ≡ c.loop-i.i = omega arith in rw e (earlier_done _ _ _ c.loop-i.invariant (omega arith))
