-- An expression's cycle of calls: the levels left fall at each operand.
use Prim.Native.Nat.{◌+◌, ◌*◌}
use Rattle.typing.proofs.expr.+type_binary_type_expr_type_unary.Given as goal

abbrev pub decreases-type_binary : goal.decreases-type_binary
decreases-type_binary l = 2 * l.depth + 1

abbrev pub decreases-type_expr : goal.decreases-type_expr
decreases-type_expr l = 2 * l.depth

abbrev pub decreases-type_unary : goal.decreases-type_unary
decreases-type_unary l = 2 * l.depth + 1
