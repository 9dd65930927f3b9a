-- Variable by variable.
use Prim.Native.Nat.{◌+◌, ◌≤◌}
use Rattle.findings.proofs.UnusedLaws.{UnmarkedLeft}
use Rattle.findings.proofs.unused.note_unmarked.Given as goal

abbrev pub invariant-loop-k : goal.invariant-loop-k
invariant-loop-k l = (l.m ≤ l.n + l.k) × UnmarkedLeft l.owner l.initial.out l.skip l.n l.marks l.count l.k l.m l.out
