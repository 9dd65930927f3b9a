-- Null, or the item.
use Rattle.reading.specs.Link.{optional_ends}
use Rattle.reading.proofs.Threads.{optional_null, optional_some}
use Rattle.reading.proofs.cursor.Cursor.optional.Goals as goal

pub returns-in-Some : goal.returns-in-Some
unfolding optional_ends
returns-in-Some g c = optional_null c.null.ensures _ c.in-Some.is

pub returns : goal.returns
unfolding optional_ends
returns g c = optional_some c.null.ensures c.in_default.is c.pass.ensures
