-- The finding is among the errors, among the warnings, or missing.
use Rattle.findings.proofs.ReplyLaws.{line_error, line_missing, line_after}
use Rattle.findings.proofs.call.line.Goals as goal

pub returns-then-k-errors : goal.returns-then-k-errors
returns-then-k-errors c = search line_error

pub returns-then-all-k : goal.returns-then-all-k
returns-then-all-k c = search line_missing

pub returns : goal.returns
returns c = search line_after
