-- By its mark, and by where p leads.
use Rattle.findings.proofs.ReachLaws.{queue_room, step_was, lead_no, lead_yes}
use Rattle.findings.proofs.walk.step_one.Goals as goal
use Rattle.findings.proofs.walk.step_one.Goals.{else-marks-i-eq0-via-then-marks-i-eq0+else-leads_to, else-marks-i-eq0-via-else-marks-i-eq0}

pub take-requires-clause-tail_in_bounds : goal.take-requires-clause-tail_in_bounds
take-requires-clause-tail_in_bounds c = search queue_room

pub returns-then-leads_to : goal.returns-then-leads_to
returns-then-leads_to c = search lead_yes

pub returns : goal.returns
returns c = elim c.else-marks-i-eq0.branch [
  | else-marks-i-eq0-via-then-marks-i-eq0+else-leads_to w ↦ search lead_no
  | else-marks-i-eq0-via-else-marks-i-eq0 w ↦ search step_was
]
