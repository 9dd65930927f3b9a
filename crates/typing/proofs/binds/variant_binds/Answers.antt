-- By the byte that stands there, then by its fields.
use Rattle.typing.proofs.JudgeLaws.{variant_absent, variant_there}
use Rattle.typing.proofs.binds.variant_binds.Goals as goal

pub returns-then-null_at : goal.returns-then-null_at
returns-then-null_at c = search variant_absent

pub returns : goal.returns
returns c = search variant_there
