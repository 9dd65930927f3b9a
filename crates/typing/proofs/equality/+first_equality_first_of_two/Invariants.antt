-- A guard's equalities: the levels left fall at each operand.
use Prim.Native.Nat.{◌+◌, ◌*◌}
use Rattle.typing.proofs.equality.+first_equality_first_of_two.Given as goal

abbrev pub decreases-first_equality : goal.decreases-first_equality
decreases-first_equality l = 2 * l.depth

abbrev pub decreases-first_of_two : goal.decreases-first_of_two
decreases-first_of_two l = 2 * l.depth + 1
