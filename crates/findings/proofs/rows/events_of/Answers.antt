-- By the words that say how long they are.
use Rattle.findings.proofs.GroupTables.{groups_as}
use Rattle.findings.proofs.rows.events_of.Goals as goal

pub returns-clause-result_value : goal.returns-clause-result_value
returns-clause-result_value c = search groups_as
