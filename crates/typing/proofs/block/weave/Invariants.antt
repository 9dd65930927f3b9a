-- Each key leaves the pairs on their lanes.
use Prim.Native.Nat.{◌+◌, ◌≤◌}
use lib.ListN.{length}
use Rattle.typing.specs.Blocks.{Weaves}
use Rattle.typing.proofs.block.weave.Given as goal

abbrev pub invariant-loop-key : goal.invariant-loop-key
invariant-loop-key l = Weaves l.doc l.initial.table l.o l.n l.table × (l.o + 829 ≤ length l.table)
