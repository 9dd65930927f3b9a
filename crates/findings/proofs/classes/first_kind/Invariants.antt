-- None of those passed is of the kind.
use Rattle.findings.specs.Classes.{kind_of, Known}
use Rattle.findings.proofs.ClassLaws.{Passed}
use Rattle.findings.proofs.classes.first_kind.Given as goal

abbrev pub invariant-loop-j : goal.invariant-loop-j
invariant-loop-j l = Passed kind_of (Known l.doc l.rows l.prints) l.count l.i l.j
