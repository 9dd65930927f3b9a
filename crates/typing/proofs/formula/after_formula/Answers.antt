-- A formula is one item.
use Rattle.typing.proofs.ShapeLaws.{formula_ends}
use Rattle.typing.proofs.formula.after_formula.Goals as goal

pub returns : goal.returns
returns c = formula_ends _ _ _ c.after_any.ensures
