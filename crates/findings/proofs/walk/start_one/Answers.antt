-- By the prints, by its mark, and by its state.
use Rattle.findings.proofs.ReachLaws.{queue_room, step_was, step_no, step_yes, starts_at_lem, starts_apart}
use Rattle.findings.proofs.walk.start_one.Goals as goal
use Rattle.findings.proofs.walk.start_one.Goals.{else-prints-at-via-then-prints-at+then-marks-at-eq0+else-same, else-prints-at-via-then-prints-at+else-marks-at-eq0, else-prints-at-via-else-prints-at}

pub take-requires-clause-tail_in_bounds : goal.take-requires-clause-tail_in_bounds
take-requires-clause-tail_in_bounds c = search queue_room

pub returns-then-same : goal.returns-then-same
returns-then-same c = search (step_yes, starts_at_lem)

pub returns : goal.returns
returns c = elim c.else-prints-at.branch [
  | else-prints-at-via-then-prints-at+then-marks-at-eq0+else-same w ↦ search (step_no, starts_at_lem)
  | else-prints-at-via-then-prints-at+else-marks-at-eq0 w ↦ search step_was
  | else-prints-at-via-else-prints-at w ↦ search starts_apart
]
