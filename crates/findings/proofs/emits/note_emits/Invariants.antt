-- What is noted and what is still to be noted of the list make the whole.
use Prim.Native.Nat.{◌+◌, ◌≤◌}
use Rattle.findings.proofs.EmitLaws.{Emits}
use Rattle.findings.proofs.emits.note_emits.Given as goal

abbrev pub invariant-loop-j : goal.invariant-loop-j
invariant-loop-j l = Emits l.doc l.at l.i l.outputs l.names l.enums l.owner l.initial.out l.skip l.n l.many l.k l.j l.next l.out × (l.many ≤ 255) × (l.next ≤ l.n + l.j)
