-- By the byte where it would stand, then by the fields passed.
use Rattle.typing.proofs.FieldLaws.{name_absent, name_again, name_fresh}
use Rattle.typing.proofs.field.field_name.Goals as goal

pub returns-then-null_at : goal.returns-then-null_at
returns-then-null_at c = search name_absent

pub returns-then-named_from : goal.returns-then-named_from
returns-then-named_from c = search name_again

pub returns : goal.returns
returns c = search name_fresh
