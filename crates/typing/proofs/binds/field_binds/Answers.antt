-- By the byte where its name would stand.
use Rattle.typing.proofs.JudgeLaws.{field_absent, field_present}
use Rattle.typing.proofs.binds.field_binds.Goals as goal

pub returns-then-null_at : goal.returns-then-null_at
returns-then-null_at c = search field_absent

pub returns : goal.returns
returns c = search field_present
