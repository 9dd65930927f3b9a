-- A count that is made one more is at most 11, and a byte less of the marks is left.
use Prim.Native.Nat.{◌≤◌}
use Rattle.typing.proofs.segments.is_worn.Given as goal

abbrev pub invariant-loop-rest : goal.invariant-loop-rest
invariant-loop-rest l = Unit {0}

abbrev pub decreases-loop-rest : goal.decreases-loop-rest
decreases-loop-rest l = l.rest

abbrev pub invariant-loop-i : goal.invariant-loop-i
invariant-loop-i l = l.i ≤ l.many
