-- The bit of the byte in its row, for every byte.
use borrow.Author.Rules.{rules}
use Rattle.reading.proofs.Bytewise.{name_bit}
use Rattle.reading.proofs.text.NameBytesAlphabet.has.Goals as goal

pub returns : goal.returns
returns c = name_bit _ (search rules) c.name_row-row.ensures
