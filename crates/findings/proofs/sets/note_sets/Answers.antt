use Prim.Native.Nat.{◌≤◌}
use native.Mathlib.Omega.{arith}
use Rattle.findings.proofs.EachLaws.{walk_start, walk_few}
use Rattle.findings.proofs.SetLaws.{sets_refused, sets_more, sets_done}
use Rattle.findings.proofs.sets.note_sets.Goals as goal

pub returns-in_default-clause-notes_sets : goal.returns-in_default-clause-notes_sets
returns-in_default-clause-notes_sets c = search sets_refused

pub overflow_cast-many : goal.overflow_cast-many
overflow_cast-many c = let h : c.in-Ok.count ≤ 255 = search walk_few in omega arith

pub loop-j-init : goal.loop-j-init
loop-j-init c = (search walk_start, search walk_few, omega arith)

pub loop-j-preserved : goal.loop-j-preserved
loop-j-preserved c = (search sets_more, omega arith, omega arith)

pub returns-clause-notes_sets : goal.returns-clause-notes_sets
returns-clause-notes_sets c = search sets_done
