use native.Mathlib.Omega.{arith}
use Rattle.findings.proofs.OnceLaws.{gathered_start, gathered_more, gathered_all}
use Rattle.findings.proofs.once.gather.Goals as goal

pub loop-k-init : goal.loop-k-init
loop-k-init c = (omega arith, search gathered_start)

pub loop-k-preserved : goal.loop-k-preserved
loop-k-preserved c = (omega arith, search gathered_more)

pub returns-clause-gathered : goal.returns-clause-gathered
returns-clause-gathered c = search gathered_all
