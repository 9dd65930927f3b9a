-- By the fields of an output.
use Rattle.findings.proofs.MentionLaws.{output_goes}
use Rattle.findings.proofs.mentions.touch_output.Goals as goal

pub returns : goal.returns
returns c = search output_goes
