-- What is noted and what is still to be noted make the whole.
use Prim.Native.Nat.{◌+◌, ◌≤◌}
use Rattle.findings.proofs.SetLaws.{Sets}
use Rattle.findings.proofs.sets.note_sets.Given as goal

abbrev pub invariant-loop-j : goal.invariant-loop-j
invariant-loop-j l = Sets l.doc l.at l.i l.vars l.names l.enums l.owner l.initial.out l.skip l.n l.many l.k l.j l.next l.out × (l.many ≤ 255) × (l.next ≤ l.n + l.j)
