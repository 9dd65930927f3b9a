-- The pairs of the lane from p on decide.
use Prim.Native.Nat.{◌-◌}
use mathlib.Core.Path.{◌≡◌}
use Rattle.typing.specs.Blocks.{along_lane, block_find}
use Rattle.typing.proofs.block.find_in_block.Given as goal

abbrev pub invariant-loop : goal.invariant-loop
invariant-loop l = along_lane (255 - l.counter) l.doc l.name l.table l.o l.p ≡ block_find l.doc l.name l.table l.o
