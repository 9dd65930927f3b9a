-- What is still to be noted decides, name by name, and those before are on their lanes.
use Prim.Native.Nat.{◌+◌, ◌/◌, ◌≤◌}
use mathlib.Core.Path.{◌≡◌}
use lib.ListN.{length}
use Rattle.typing.specs.Lanes.{Lanes}
use Rattle.findings.proofs.ClaimLaws.{Repeating}
use Rattle.findings.proofs.claims.note_repeats.Given as goal

abbrev pub invariant-loop-i : goal.invariant-loop-i
invariant-loop-i l = Repeating l.doc l.table l.owner l.initial.out l.skip l.n l.i l.r l.out × (l.many ≡ length l.table / 2) × (l.r ≤ l.n + l.i) × Lanes l.doc l.table l.i l.heads l.links × (length l.links ≡ 510)
