-- Those passed have their first ones, and the remainders of their prints are seen.
use Rattle.findings.specs.Scene.{Rows}
use Rattle.findings.specs.Classes.{guard_of}
use Rattle.findings.proofs.ClassLaws.{Firsts}
use Rattle.findings.proofs.FirstLaws.{mark_at}
use Rattle.findings.proofs.classes.first_guards.Given as goal

abbrev pub invariant-loop-i : goal.invariant-loop-i
invariant-loop-i l = Firsts guard_of (Rows l.doc l.rows) l.count (mark_at l.marks) l.i l.guards l.seen
