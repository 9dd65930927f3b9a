-- Where the end comes first, nothing stands between.
use Rattle.typing.proofs.GuardLaws.{nothing_between}
use Rattle.typing.proofs.guard.is_long.Goals as goal

pub returns-then-end-at : goal.returns-then-end-at
returns-then-end-at c = search nothing_between
