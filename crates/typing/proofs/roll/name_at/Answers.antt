-- After the tag, or after the head.
use Rattle.typing.proofs.RollLaws.{name_tagged, name_bare}
use Rattle.typing.proofs.roll.name_at.Goals as goal

pub returns-then-tagged : goal.returns-then-tagged
returns-then-tagged c = search name_tagged

pub returns : goal.returns
returns c = search name_bare
