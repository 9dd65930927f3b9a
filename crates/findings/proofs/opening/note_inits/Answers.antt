use native.Mathlib.Omega.{arith}
use Rattle.findings.proofs.EachLaws.{walk_start, walk_few}
use Rattle.findings.proofs.OpeningLaws.{inits_refused, inits_more, inits_done}
use Rattle.findings.proofs.opening.note_inits.Goals as goal

pub returns-in_default-clause-notes_inits : goal.returns-in_default-clause-notes_inits
returns-in_default-clause-notes_inits c = search inits_refused

pub loop-i-init : goal.loop-i-init
loop-i-init c = (search walk_start, search walk_few, omega arith)

pub loop-i-preserved : goal.loop-i-preserved
loop-i-preserved c = (search inits_more, omega arith, omega arith)

pub returns-clause-notes_inits : goal.returns-clause-notes_inits
returns-clause-notes_inits c = search inits_done
