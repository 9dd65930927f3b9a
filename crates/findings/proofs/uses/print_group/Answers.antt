-- By the name that is handed out.
use Rattle.findings.proofs.UseLaws.{group_print}
use Rattle.findings.proofs.uses.print_group.Goals as goal

pub returns : goal.returns
returns c = search group_print
