-- By the length, or by the last byte.
use Rattle.typing.proofs.ShortLaws.{differs_length, differs_last}
use Rattle.typing.proofs.table.other_end.Goals as goal

pub returns-then-n-name : goal.returns-then-n-name
returns-then-n-name c = search differs_length

pub returns-then-doc-at : goal.returns-then-doc-at
returns-then-doc-at c = search differs_last
