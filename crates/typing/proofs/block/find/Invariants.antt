-- The blocks before number b decide.
use Prim.Native.Nat.{◌*◌, ◌≤◌}
use mathlib.Core.Path.{◌≡◌}
use lib.ListN.{length}
use Rattle.typing.specs.Blocks.{find_blocks, find_in}
use Rattle.typing.proofs.block.find.Given as goal

abbrev pub invariant-loop-b : goal.invariant-loop-b
invariant-loop-b l = (829 * l.b ≤ length l.table) × (find_blocks l.b l.doc l.name l.table ≡ find_in l.doc l.name l.table)
