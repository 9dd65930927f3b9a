-- A guard's equalities: the levels left fall at each operand.
use Prim.Native.Nat.{◌+◌, ◌*◌}
use Rattle.typing.proofs.seen.+note_conjuncts_note_two.Given as goal

abbrev pub decreases-note_conjuncts : goal.decreases-note_conjuncts
decreases-note_conjuncts l = 2 * l.depth

abbrev pub decreases-note_two : goal.decreases-note_two
decreases-note_two l = 2 * l.depth + 1
