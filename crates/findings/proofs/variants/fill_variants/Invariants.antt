-- Name by name.
use Prim.Native.Nat.{◌≤◌}
use lib.ListN.{length}
use Rattle.findings.proofs.VariantLaws.{VariantsSoFar}
use Rattle.findings.proofs.variants.fill_variants.Given as goal

abbrev pub invariant-loop-j : goal.invariant-loop-j
invariant-loop-j l = (l.many ≤ 255) × (510 ≤ length l.variants) × VariantsSoFar l.doc l.at l.many l.k l.j l.variants
