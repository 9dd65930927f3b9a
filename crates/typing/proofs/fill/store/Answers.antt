-- Past the end a store changes nothing.
use mathlib.Core.Path.{sym}
use lib.Seq.{set_out}
use Rattle.typing.proofs.fill.store.Goals as goal

pub returns-else-j-table : goal.returns-else-j-table
returns-else-j-table c = sym (set_out _ _ _ c.if-j-table.false)
