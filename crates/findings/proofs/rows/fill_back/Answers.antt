-- Four items, one after the other.
use Rattle.findings.proofs.MoveLaws.{four_end, four_words}
use Rattle.findings.proofs.rows.fill_back.Goals as goal

pub returns-clause-value : goal.returns-clause-value
returns-clause-value c = search four_end

pub returns-clause-table_after : goal.returns-clause-table_after
returns-clause-table_after c = search four_words
