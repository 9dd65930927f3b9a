-- One table after the other.
use Rattle.findings.proofs.GroupTables.{groups_filled}
use Rattle.findings.proofs.module.fill_groups.Goals as goal

pub returns : goal.returns
returns c = groups_filled _ _ _ _ _ c.requires c.word-events.ensures c.word-outputs.ensures c.fill_group.ensures c.fill_outputs.ensures
