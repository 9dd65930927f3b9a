-- By the case.
use Rattle.typing.proofs.EntryLaws.{fields_none, fields_other, fields_one}
use Rattle.typing.proofs.entries.fields_at.Goals as goal

pub returns-in_default-clause-fields_at : goal.returns-in_default-clause-fields_at
returns-in_default-clause-fields_at c = search fields_none

pub returns-then-tag-eq1-clause-fields_at : goal.returns-then-tag-eq1-clause-fields_at
returns-then-tag-eq1-clause-fields_at c = search fields_one

pub returns-clause-fields_at : goal.returns-clause-fields_at
returns-clause-fields_at c = search fields_other
