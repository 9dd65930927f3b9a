-- By the byte, or past the end.
use Rattle.typing.proofs.JudgeLaws.{no_null}
use Rattle.typing.proofs.binds.null_at.Goals as goal

pub returns : goal.returns
returns c = search no_null
