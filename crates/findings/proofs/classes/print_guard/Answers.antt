-- By the places of the guard.
use Rattle.findings.proofs.PrintLaws.{part_as}
use Rattle.findings.proofs.classes.print_guard.Goals as goal

pub returns : goal.returns
returns c = search part_as
