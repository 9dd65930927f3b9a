use native.Mathlib.Omega.{arith}
use Rattle.findings.proofs.PrintLaws.{prints_start, prints_more, prints_done}
use Rattle.findings.proofs.prints.fill_prints.Goals as goal

pub loop-i-init : goal.loop-i-init
loop-i-init c = (prints_start _ _ (omega arith), omega arith)

pub loop-i-preserved : goal.loop-i-preserved
loop-i-preserved c = (search prints_more, omega arith)

pub returns : goal.returns
returns c = search prints_done
