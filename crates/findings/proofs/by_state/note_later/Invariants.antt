-- What is noted, and what is left, make the whole.
use Prim.Native.Nat.{◌+◌, ◌≤◌}
use Rattle.findings.proofs.StateTurns.{LaterLeft}
use Rattle.findings.proofs.by_state.note_later.Given as goal

abbrev pub invariant-loop-j : goal.invariant-loop-j
invariant-loop-j l = LaterLeft l.doc l.owner l.initial.out l.skip l.n l.rows l.prints l.count l.warn l.i l.j l.m l.out × (l.m ≤ l.n + l.j)
