use Rattle.text.proofs.PathLaws.{names_on, names_stop, names_done}
use Prim.Native.Nat.{◌-◌}
use mathlib.Core.Path.{◌≡◌}
use native.Mathlib.Omega.{arith}
use Rattle.text.proofs.path.names_read.Goals as goal

pub loop-i-init : goal.loop-i-init
loop-i-init c = let whole : c.args.count - 0 ≡ c.args.count = omega arith in rw whole

pub loop-i-preserved : goal.loop-i-preserved
loop-i-preserved c = search names_on

pub returns-in_default : goal.returns-in_default
returns-in_default c = search names_stop

pub returns : goal.returns
returns c = search names_done
