-- Guard, outputs and sets, one after the other.
use Rattle.findings.proofs.MentionLaws.{row_goes}
use Rattle.findings.proofs.mentions.touch_row.Goals as goal

pub returns : goal.returns
returns c = search row_goes
