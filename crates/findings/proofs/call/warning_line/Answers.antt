-- The walk leaves the finding's words.
use Rattle.findings.proofs.ReplyLaws.{warning_line}
use Rattle.findings.proofs.call.warning_line.Goals as goal

pub returns : goal.returns
returns c = search warning_line
