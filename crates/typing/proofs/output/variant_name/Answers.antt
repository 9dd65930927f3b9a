-- By the byte that stands there.
use Rattle.typing.proofs.EmitLaws.{named_not, named_there}
use Rattle.typing.proofs.output.variant_name.Goals as goal

pub returns-then-null_at : goal.returns-then-null_at
returns-then-null_at c = search named_not

pub returns : goal.returns
returns c = search named_there
