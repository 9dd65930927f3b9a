-- A formula's bounds: the levels left fall at each formula inside it.
use Prim.Native.Nat.{◌+◌, ◌*◌}
use Rattle.typing.proofs.formula.+always_error_bounded_always_error_either_error_sometime_error.Given as goal

abbrev pub decreases-always_error : goal.decreases-always_error
decreases-always_error l = 2 * l.depth + 1

abbrev pub decreases-bounded_always_error : goal.decreases-bounded_always_error
decreases-bounded_always_error l = 2 * l.depth

abbrev pub decreases-either_error : goal.decreases-either_error
decreases-either_error l = 2 * l.depth + 1

abbrev pub decreases-sometime_error : goal.decreases-sometime_error
decreases-sometime_error l = 2 * l.depth + 1
