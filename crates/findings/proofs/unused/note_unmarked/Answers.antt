use native.Mathlib.Omega.{arith}
use Rattle.findings.proofs.UnusedLaws.{unmarked_start, unmarked_more, unmarked_done}
use Rattle.findings.proofs.unused.note_unmarked.Goals as goal

pub loop-k-init : goal.loop-k-init
loop-k-init c = (omega arith, search unmarked_start)

pub loop-k-preserved : goal.loop-k-preserved
loop-k-preserved c = (omega arith, search unmarked_more)

pub returns-clause-notes_unmarked : goal.returns-clause-notes_unmarked
returns-clause-notes_unmarked c = search unmarked_done
