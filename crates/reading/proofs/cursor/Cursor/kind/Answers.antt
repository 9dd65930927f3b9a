-- A head of one byte, or any.
use Rattle.reading.proofs.Short.{kind_missing, kind_short}
use Rattle.reading.proofs.cursor.Cursor.kind.Goals as goal

pub returns-then-doc-at : goal.returns-then-doc-at
returns-then-doc-at c = search kind_missing

pub returns-then-one_byte : goal.returns-then-one_byte
returns-then-one_byte c = search kind_short

pub returns : goal.returns
returns c = c.any_kind.ensures
