-- Row by row.
use Prim.Native.Nat.{◌+◌, ◌≤◌}
use Rattle.findings.proofs.ImpossibleLaws.{GuardsLeft}
use Rattle.findings.proofs.impossible.note_impossible.Given as goal

abbrev pub invariant-loop-i : goal.invariant-loop-i
invariant-loop-i l = (l.m ≤ l.n + l.i) × GuardsLeft l.doc l.owner l.initial.out l.skip l.n l.rows l.count l.i l.m l.out
