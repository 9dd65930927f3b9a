-- By the name that is handed out.
use Rattle.findings.proofs.PrintLaws.{print_text}
use Rattle.findings.proofs.prints.print_name.Goals as goal

pub returns : goal.returns
returns c = search print_text
