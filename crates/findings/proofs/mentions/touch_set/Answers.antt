-- By the fields of a set.
use Rattle.findings.proofs.MentionLaws.{set_goes}
use Rattle.findings.proofs.mentions.touch_set.Goals as goal

pub returns : goal.returns
returns c = search set_goes
