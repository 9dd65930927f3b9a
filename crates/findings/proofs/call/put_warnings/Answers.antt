-- Written by another walk, or copied.
use Rattle.findings.proofs.ReplyLaws.{warnings_walked, warnings_copied}
use Rattle.findings.proofs.call.put_warnings.Goals as goal

pub returns-then-kept-len : goal.returns-then-kept-len
returns-then-kept-len c = search warnings_walked

pub returns : goal.returns
returns c = search warnings_copied
