-- A head of one byte with the bytes of a name, or any string.
use Rattle.reading.specs.Text.{read_name}
use Rattle.reading.specs.Link.{least_of, alphabet_of}
use Rattle.reading.proofs.Short.{name_read}
use Rattle.reading.proofs.cursor.Cursor.name.Goals as goal

pub returns-then-all_of : goal.returns-then-all_of
returns-then-all_of c = search name_read

pub returns : goal.returns
unfolding read_name least_of alphabet_of
returns c = c.text.ensures
