-- What is still to be noted decides, variable by variable.
use Prim.Native.Nat.{◌+◌, ◌≤◌}
use Rattle.findings.proofs.OpeningLaws.{Inits}
use Rattle.findings.proofs.opening.note_inits.Given as goal

abbrev pub invariant-loop-i : goal.invariant-loop-i
invariant-loop-i l = Inits l.doc l.names l.enums l.at l.owner l.initial.out l.skip l.n l.count l.k l.i l.r l.out × (l.count ≤ 255) × (l.r ≤ l.n + l.i)
