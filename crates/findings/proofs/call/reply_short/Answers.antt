-- From what the walk kept, where it kept all.
use Rattle.findings.proofs.ReplyLaws.{kept_put}
use Rattle.findings.proofs.call.reply_short.Goals as goal

pub returns : goal.returns
returns c = search kept_put
