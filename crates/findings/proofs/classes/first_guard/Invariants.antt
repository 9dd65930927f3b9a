-- None of those passed has the guard.
use Rattle.findings.specs.Scene.{Rows}
use Rattle.findings.specs.Classes.{guard_of}
use Rattle.findings.proofs.ClassLaws.{Passed}
use Rattle.findings.proofs.classes.first_guard.Given as goal

abbrev pub invariant-loop-j : goal.invariant-loop-j
invariant-loop-j l = Passed guard_of (Rows l.doc l.rows) l.count l.i l.j
