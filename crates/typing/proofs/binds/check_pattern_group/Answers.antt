-- By its variant.
use Rattle.typing.proofs.JudgeLaws.{group_binds, group_fine}
use Rattle.typing.proofs.binds.check_pattern_group.Goals as goal

pub returns-then-variant_binds : goal.returns-then-variant_binds
returns-then-variant_binds c = search group_binds

pub returns : goal.returns
returns c = search group_fine
