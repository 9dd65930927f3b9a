use native.Mathlib.Omega.{arith}
use Rattle.typing.proofs.GroupLaws.{groups_start, groups_hit, groups_miss, groups_done}
use Rattle.typing.proofs.first.first_variants.Goals as goal

pub loop-k-init : goal.loop-k-init
loop-k-init c = (omega arith, omega arith, search groups_start)

pub returns-then-same : goal.returns-then-same
returns-then-same c = search groups_hit

pub loop-k-preserved : goal.loop-k-preserved
loop-k-preserved c = (omega arith, omega arith, search groups_miss)

pub returns : goal.returns
returns c = search groups_done
