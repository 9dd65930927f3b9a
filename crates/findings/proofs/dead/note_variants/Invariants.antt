-- Variant by variant.
use Prim.Native.Nat.{◌+◌, ◌≤◌}
use Rattle.findings.proofs.DeadLaws.{VariantsLeft}
use Rattle.findings.proofs.dead.note_variants.Given as goal

abbrev pub invariant-loop-j : goal.invariant-loop-j
invariant-loop-j l = (l.count ≤ 255) × (l.m ≤ l.n + l.j) × VariantsLeft l.doc l.owner l.initial.out l.skip l.n l.found l.names l.bare l.g l.at l.count l.k l.j l.m l.out
