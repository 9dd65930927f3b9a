-- By the mark, and by whether the names are the same.
use Rattle.findings.proofs.TouchLaws.{var_past, var_marked, var_hit, var_miss}
use Rattle.findings.proofs.touch.touch_var.Goals as goal
use Rattle.findings.proofs.touch.touch_var.Goals.{else-k-marks-via-then-k-marks+then-marks-k-ne1+else-same, else-k-marks-via-then-k-marks+else-marks-k-ne1, else-k-marks-via-else-k-marks}

pub returns-then-same : goal.returns-then-same
returns-then-same c = search var_hit

pub returns-else-k-marks : goal.returns-else-k-marks
returns-else-k-marks c = elim c.else-k-marks.branch [
  | else-k-marks-via-then-k-marks+then-marks-k-ne1+else-same w ↦ search var_miss
  | else-k-marks-via-then-k-marks+else-marks-k-ne1 w ↦ search var_marked
  | else-k-marks-via-else-k-marks w ↦ search var_past
]
