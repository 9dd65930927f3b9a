-- A part of the words, and one before them.
use Rattle.findings.proofs.GroupTables.{group_filled}
use Rattle.findings.proofs.module.fill_group.Goals as goal

pub returns : goal.returns
returns c = search group_filled
