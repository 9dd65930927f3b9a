-- What is noted, and what is left, make the whole.
use Prim.Native.Nat.{◌+◌, ◌*◌, ◌≤◌}
use Rattle.findings.proofs.StateTurns.{TurnsLeft}
use Rattle.findings.proofs.by_state.note_states.Given as goal

abbrev pub invariant-loop-turn : goal.invariant-loop-turn
invariant-loop-turn l = TurnsLeft l.doc l.owner l.initial.out l.skip l.n l.rows l.prints l.count l.warn l.done l._turn l.m l.out × (l.m ≤ l.n + 130050 * l._turn)
