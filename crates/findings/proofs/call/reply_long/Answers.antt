-- From what the walk kept.
use Rattle.findings.proofs.ReplyLaws.{all_put}
use Rattle.findings.proofs.call.reply_long.Goals as goal

pub returns : goal.returns
returns c = search all_put
