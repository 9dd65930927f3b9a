-- By the first variant of its name.
use Rattle.typing.proofs.EventLaws.{alone_spares, group_none, group_variant}
use Rattle.typing.proofs.event.judge_group.Goals as goal

pub returns-in_default-clause-judges_group : goal.returns-in_default-clause-judges_group
returns-in_default-clause-judges_group c = search group_none

pub returns-in_default-clause-spares : goal.returns-in_default-clause-spares
returns-in_default-clause-spares c = search alone_spares

pub returns-clause-judges_group : goal.returns-clause-judges_group
returns-clause-judges_group c = search group_variant
