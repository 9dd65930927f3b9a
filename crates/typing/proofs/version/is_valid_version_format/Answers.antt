use native.Mathlib.Omega.{arith}
use Rattle.typing.proofs.VersionLaws.{run_all, run_step, run_done}
use Rattle.typing.proofs.version.is_valid_version_format.Goals as goal

pub loop-b-init : goal.loop-b-init
loop-b-init c = (omega arith, run_all _)

pub loop-b-preserved : goal.loop-b-preserved
loop-b-preserved c = (omega arith, search run_step)

pub returns : goal.returns
returns c = search run_done
