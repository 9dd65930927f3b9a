-- A depth that is counted up is at most 11.
use Prim.Native.Nat.{◌≤◌}
use Rattle.typing.proofs.block.crowded.Given as goal

abbrev pub invariant-loop-i : goal.invariant-loop-i
invariant-loop-i l = l.i ≤ l.n
