-- By the byte where its name would stand, then by the name.
use Rattle.typing.proofs.FieldLaws.{named_null, named_text}
use Rattle.typing.proofs.field.field_named.Goals as goal

pub returns-then-null_at : goal.returns-then-null_at
returns-then-null_at c = search named_null

pub returns : goal.returns
returns c = search named_text
