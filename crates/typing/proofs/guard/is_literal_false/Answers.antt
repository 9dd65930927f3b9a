-- By the case that stands there.
use Rattle.typing.proofs.GuardLaws.{literal_other, literal_bool}
use Rattle.typing.proofs.guard.is_literal_false.Goals as goal

pub returns-then-has_case : goal.returns-then-has_case
returns-then-has_case c = search literal_bool

pub returns : goal.returns
returns c = search literal_other
