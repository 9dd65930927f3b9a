-- The count of items, then the operand.
use Rattle.std.proofs.Common.{rules}
use Rattle.reading.specs.Expr.{read_expr}
use Rattle.reading.proofs.Threads.{on_error, sized_out, sized_on}
use Rattle.reading.proofs.cursor.Cursor.one_expr.Goals as goal

pub returns-in_err-sized : goal.returns-in_err-sized
returns-in_err-sized c = on_error (sized_out _ _ _ _ (read_expr c.args.left) c.sized.ensures c.in_err-sized.was) (search rules)

pub returns : goal.returns
returns c = sized_on _ _ _ _ (read_expr c.args.left) c.sized.ensures c.in_ok-sized.was c.expr.ensures
