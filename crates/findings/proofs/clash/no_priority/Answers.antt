-- By the place of the priority.
use Rattle.findings.proofs.PriorityLaws.{bare_row}
use Rattle.findings.proofs.clash.no_priority.Goals as goal

pub returns : goal.returns
returns c = search bare_row
