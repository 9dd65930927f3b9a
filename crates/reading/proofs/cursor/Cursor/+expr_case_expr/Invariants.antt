-- The levels left fall at each expr.
use Prim.Native.Nat.{◌+◌, ◌*◌}
use Rattle.reading.proofs.cursor.Cursor.+expr_case_expr.Given as goal

abbrev pub decreases-expr_case : goal.decreases-expr_case
decreases-expr_case l = 2 * l.left + 1

abbrev pub decreases-expr : goal.decreases-expr
decreases-expr l = 2 * l.left
