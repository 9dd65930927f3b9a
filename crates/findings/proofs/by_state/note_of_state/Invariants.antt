-- What is noted, and what is left, make the whole.
use Prim.Native.Nat.{◌+◌, ◌*◌, ◌≤◌}
use Rattle.findings.proofs.StateTurns.{StateLeft}
use Rattle.findings.proofs.by_state.note_of_state.Given as goal

abbrev pub invariant-loop-i : goal.invariant-loop-i
invariant-loop-i l = StateLeft l.doc l.owner l.initial.out l.skip l.n l.rows l.prints l.count l.warn l.b l.i l.m l.out × (l.m ≤ l.n + 510 * l.i)
