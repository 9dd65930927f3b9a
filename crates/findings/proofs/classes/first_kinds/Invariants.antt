-- Those passed have their first ones, and the remainders of their keys are seen.
use Rattle.findings.specs.Classes.{kind_of, Known}
use Rattle.findings.proofs.ClassLaws.{Firsts}
use Rattle.findings.proofs.FirstLaws.{key_at}
use Rattle.findings.proofs.classes.first_kinds.Given as goal

abbrev pub invariant-loop-i : goal.invariant-loop-i
invariant-loop-i l = Firsts kind_of (Known l.doc l.rows l.prints) l.count (key_at l.prints) l.i l.kinds l.seen
