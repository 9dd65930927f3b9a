-- By the two bytes.
use Rattle.findings.proofs.MoveLaws.{past_wide}
use Rattle.findings.proofs.rows.after_number.Goals as goal

pub returns-then-doc-at-gt23 : goal.returns-then-doc-at-gt23
returns-then-doc-at-gt23 c = search past_wide
