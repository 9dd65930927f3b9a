-- Pair by pair, from empty lanes on: those before are on their lanes.
use Prim.Native.Nat.{◌≤◌}
use mathlib.Core.Path.{◌≡◌}
use lib.ListN.{length}
use Rattle.typing.specs.Lanes.{Lanes}
use Rattle.typing.proofs.lanes.lane_all.Given as goal

abbrev pub invariant-loop-i : goal.invariant-loop-i
invariant-loop-i l = Lanes l.doc l.table l.i l.heads l.links × (l.i ≤ l.n) × (length l.heads ≡ length l.initial.heads) × (length l.links ≡ length l.initial.links)
