-- A name is a string of its alphabet that is not empty.
use Rattle.reading.specs.Text.{read_name}
use Rattle.reading.specs.Link.{least_of, alphabet_of}
use Rattle.text.proofs.path.name_at.Goals as goal

pub returns : goal.returns
unfolding read_name least_of alphabet_of
returns c = c.text.ensures
