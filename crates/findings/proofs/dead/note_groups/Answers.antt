use native.Mathlib.Omega.{arith}
use Rattle.findings.proofs.DeadLaws.{groups_start, groups_more, groups_done}
use Rattle.findings.proofs.dead.note_groups.Goals as goal

pub loop-g-init : goal.loop-g-init
loop-g-init c = (omega arith, omega arith, search groups_start)

pub loop-g-preserved : goal.loop-g-preserved
loop-g-preserved c = (omega arith, omega arith, search groups_more)

pub returns-clause-notes_groups : goal.returns-clause-notes_groups
returns-clause-notes_groups c = search groups_done
