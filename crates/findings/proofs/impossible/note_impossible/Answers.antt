use native.Mathlib.Omega.{arith}
use Rattle.findings.proofs.ImpossibleLaws.{guards_start, guards_more, guards_done}
use Rattle.findings.proofs.impossible.note_impossible.Goals as goal

pub loop-i-init : goal.loop-i-init
loop-i-init c = (omega arith, search guards_start)

pub loop-i-preserved : goal.loop-i-preserved
loop-i-preserved c = (omega arith, search guards_more)

pub returns-clause-notes_impossible : goal.returns-clause-notes_impossible
returns-clause-notes_impossible c = search guards_done
