-- Too short, or written.
use Rattle.findings.proofs.ReplyLaws.{all_short, all_written}
use Rattle.findings.proofs.call.put_all.Goals as goal

pub returns-then-out-all : goal.returns-then-out-all
returns-then-out-all c = search all_short

pub returns : goal.returns
returns c = search all_written
