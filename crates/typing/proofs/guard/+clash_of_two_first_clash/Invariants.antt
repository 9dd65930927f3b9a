-- A guard's first clash: the levels left fall at each operand.
use Prim.Native.Nat.{◌+◌, ◌*◌}
use Rattle.typing.proofs.guard.+clash_of_two_first_clash.Given as goal

abbrev pub decreases-clash_of_two : goal.decreases-clash_of_two
decreases-clash_of_two l = 2 * l.depth + 1

abbrev pub decreases-first_clash : goal.decreases-first_clash
decreases-first_clash l = 2 * l.depth
