-- From both sides.
use Rattle.typing.proofs.EqualityLaws.{equality_is}
use Rattle.typing.proofs.equality.equality_at.Goals as goal

pub returns : goal.returns
returns c = search equality_is
