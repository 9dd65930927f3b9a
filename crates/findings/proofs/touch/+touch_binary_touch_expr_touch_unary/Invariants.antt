-- An expression's names: the levels left fall at each operand.
use Prim.Native.Nat.{◌+◌, ◌*◌}
use Rattle.findings.proofs.touch.+touch_binary_touch_expr_touch_unary.Given as goal

abbrev pub decreases-touch_binary : goal.decreases-touch_binary
decreases-touch_binary l = 2 * l.depth + 1

abbrev pub decreases-touch_expr : goal.decreases-touch_expr
decreases-touch_expr l = 2 * l.depth

abbrev pub decreases-touch_unary : goal.decreases-touch_unary
decreases-touch_unary l = 2 * l.depth + 1
