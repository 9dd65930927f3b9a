-- By the places of the pattern.
use Rattle.findings.proofs.PrintLaws.{part_as}
use Rattle.findings.proofs.prints.print_pattern.Goals as goal

pub returns : goal.returns
returns c = search part_as
