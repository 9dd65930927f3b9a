-- Pair by pair: those before are on their lanes.
use Prim.Native.Nat.{◌+◌, ◌≤◌}
use lib.ListN.{length}
use Rattle.typing.specs.Blocks.{Weaves}
use Rattle.typing.proofs.block.weave_by.Given as goal

abbrev pub invariant-loop-i : goal.invariant-loop-i
invariant-loop-i l = Weaves l.doc l.initial.table l.o l.i l.table × (l.i ≤ l.n) × (l.o + 829 ≤ length l.table)
