-- Written by another walk, or copied.
use Rattle.findings.proofs.ReplyLaws.{errors_walked, errors_copied}
use Rattle.findings.proofs.call.put_errors.Goals as goal

pub returns-then-kept-len : goal.returns-then-kept-len
returns-then-kept-len c = search errors_walked

pub returns : goal.returns
returns c = search errors_copied
