-- Name by name.
use Prim.Native.Nat.{◌+◌, ◌≤◌}
use Rattle.findings.proofs.UnledLaws.{UnledLeft}
use Rattle.findings.proofs.reach.note_unled_at.Given as goal

abbrev pub invariant-loop-j : goal.invariant-loop-j
invariant-loop-j l = (l.many ≤ 255) × (l.m ≤ l.n + l.j) × UnledLeft l.doc l.owner l.initial.out l.skip l.n l.rows l.prints l.count l.marks l.at l.list l.many l.k l.j l.m l.out
