-- An expression is one item.
use Rattle.typing.proofs.TypeLaws.{expr_ends}
use Rattle.typing.proofs.expr.after_expr.Goals as goal

pub returns : goal.returns
returns c = expr_ends _ _ _ c.after_any.ensures
