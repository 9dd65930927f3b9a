-- The short heads, then the rest.
use Rattle.reading.proofs.Passes.{short_rest}
use Rattle.reading.proofs.cursor.Cursor.skip.Goals as goal

pub returns : goal.returns
returns c = search short_rest
