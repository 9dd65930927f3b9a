use native.Mathlib.Omega.{arith}
use borrow.Author.Rules.{rules}
use Rattle.findings.proofs.ClassLaws.{passed_start, passed_all}
use Rattle.findings.proofs.FirstLaws.{guard_skip, guard_other, guard_found_lem}
use Rattle.findings.proofs.classes.first_guard.Goals as goal
use Rattle.findings.proofs.classes.first_guard.Goals.{else-marks-j-via-then-marks-j+else-same_guard, else-marks-j-via-else-marks-j}

pub loop-j-init : goal.loop-j-init
loop-j-init c = search passed_start

pub returns-then-same_guard : goal.returns-then-same_guard
returns-then-same_guard c = guard_found_lem _ _ _ _ (search rules) c.same_guard.ensures c.if-same_guard.true (omega arith)

pub loop-j-preserved : goal.loop-j-preserved
loop-j-preserved c = elim c.else-marks-j.branch [
  | else-marks-j-via-then-marks-j+else-same_guard w ↦ search guard_other
  | else-marks-j-via-else-marks-j w ↦ search guard_skip
]

pub returns : goal.returns
returns c = search passed_all
