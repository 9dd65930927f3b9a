use native.Mathlib.Omega.{arith}
use Rattle.findings.proofs.WalkLaws.{go_refused, go_start, go_more, go_done}
use Rattle.findings.proofs.EachLaws.{walk_few}
use Rattle.findings.proofs.whole.walk_modules.Goals as goal

pub returns-in_default-clause-walks_modules : goal.returns-in_default-clause-walks_modules
returns-in_default-clause-walks_modules c = search go_refused

pub loop-i-init : goal.loop-i-init
loop-i-init c = (search walk_few, omega arith, omega arith, search go_start)

pub loop-i-preserved : goal.loop-i-preserved
loop-i-preserved c = (omega arith, omega arith, omega arith, search go_more)

pub returns-clause-walks_modules : goal.returns-clause-walks_modules
returns-clause-walks_modules c = search go_done
