-- Pair by pair: those before are on their lanes.
use Prim.Native.Nat.{◌/◌}
use mathlib.Core.Path.{◌≡◌}
use lib.ListN.{length}
use Rattle.typing.specs.Lanes.{Lanes}
use Rattle.findings.proofs.lanes.add_all.Given as goal

abbrev pub invariant-loop-k : goal.invariant-loop-k
invariant-loop-k l = Lanes l.doc l.table l.k l.heads l.links × (l.many ≡ length l.table / 2)
