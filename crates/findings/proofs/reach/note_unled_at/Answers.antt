use native.Mathlib.Omega.{arith}
use Rattle.findings.proofs.EachLaws.{walk_few}
use Rattle.findings.proofs.UnledLaws.{unled_refused, unled_start, unled_more, unled_done}
use Rattle.findings.proofs.reach.note_unled_at.Goals as goal

pub returns-in_default-clause-notes_unled_at : goal.returns-in_default-clause-notes_unled_at
returns-in_default-clause-notes_unled_at c = search unled_refused

pub loop-j-init : goal.loop-j-init
loop-j-init c = (search walk_few, omega arith, search unled_start)

pub loop-j-preserved : goal.loop-j-preserved
loop-j-preserved c = (omega arith, omega arith, search unled_more)

pub returns-clause-notes_unled_at : goal.returns-clause-notes_unled_at
returns-clause-notes_unled_at c = search unled_done
