-- By the places of the pattern and the priority.
use Rattle.findings.proofs.PrintLaws.{key_ranked}
use Rattle.findings.proofs.prints.key_of.Goals as goal

pub returns : goal.returns
returns c = search key_ranked
