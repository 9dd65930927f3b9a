use Prim.Native.Nat.{◌≤◌}
use native.Mathlib.Omega.{arith}
use Rattle.findings.proofs.EachLaws.{walk_start, walk_few}
use Rattle.findings.proofs.EmitLaws.{emits_refused, emits_more, emits_done}
use Rattle.findings.proofs.emits.note_emits.Goals as goal

pub returns-in_default-clause-notes_emits : goal.returns-in_default-clause-notes_emits
returns-in_default-clause-notes_emits c = search emits_refused

pub overflow_cast-many : goal.overflow_cast-many
overflow_cast-many c = let h : c.in-Ok.count ≤ 255 = search walk_few in omega arith

pub loop-j-init : goal.loop-j-init
loop-j-init c = (search walk_start, search walk_few, omega arith)

pub loop-j-preserved : goal.loop-j-preserved
loop-j-preserved c = (search emits_more, omega arith, omega arith)

pub returns-clause-notes_emits : goal.returns-clause-notes_emits
returns-clause-notes_emits c = search emits_done
