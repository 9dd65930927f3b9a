-- The transitions, then on_error.
use Rattle.findings.proofs.MentionLaws.{all_goes}
use Rattle.findings.proofs.mentions.touch_all.Goals as goal

pub returns : goal.returns
returns c = search all_goes
