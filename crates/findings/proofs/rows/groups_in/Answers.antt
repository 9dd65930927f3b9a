-- A part of a part.
use Rattle.findings.proofs.GroupTables.{groups_few, groups_part}
use Rattle.findings.proofs.rows.groups_in.Goals as goal

pub returns-clause-result_value : goal.returns-clause-result_value
returns-clause-result_value c = search groups_part

pub returns-clause-result_len_bound : goal.returns-clause-result_len_bound
returns-clause-result_len_bound c = search groups_few
