-- What is noted and what is still to be noted of the transitions make the whole.
use Prim.Native.Nat.{◌+◌, ◌*◌, ◌≤◌}
use Rattle.findings.proofs.TransitionLaws.{Turns}
use Rattle.findings.proofs.transition.note_transitions.Given as goal

abbrev pub invariant-loop-i : goal.invariant-loop-i
invariant-loop-i l = Turns l.doc l.places l.rows l.prints l.count l.variants l.initial.table l.enums l.owner l.initial.out l.skip l.n l.i l.next l.table l.out × (l.next ≤ l.n + 514 * l.i)
