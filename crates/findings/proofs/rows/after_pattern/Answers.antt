-- By its bytes.
use Rattle.findings.proofs.MoveLaws.{past_pattern}
use Rattle.findings.proofs.rows.after_pattern.Goals as goal

pub returns-in-Some : goal.returns-in-Some
returns-in-Some c = search (past_pattern, c.in-Some.ensures)
