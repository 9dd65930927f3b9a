-- With all levels left.
use Rattle.reading.specs.Transition.{read_top_expr}
use Rattle.reading.proofs.expr.ExprItem.pass.Goals as goal

pub returns : goal.returns
unfolding read_top_expr
returns c = c.expr.ensures
