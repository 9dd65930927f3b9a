-- A list of names.
use Rattle.reading.specs.Text.{read_name}
use Rattle.reading.specs.Expr.{read_path}
use Rattle.reading.proofs.Threads.{list_stands}
use Rattle.reading.proofs.expr.PathItem.pass.Goals as goal

pub returns : goal.returns
unfolding read_path
returns c = list_stands read_name _ _ _ c.list.ensures
