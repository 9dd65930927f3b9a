-- The table is filled, and the names in it are marked.
use Rattle.findings.proofs.UnusedLaws.{used_marked}
use Rattle.findings.proofs.unused.mark_used.Goals as goal

pub returns : goal.returns
returns c = search used_marked
