-- Four fields, and then four.
use Rattle.findings.proofs.MoveLaws.{eight_end, eight_words}
use Rattle.findings.proofs.rows.fill_move.Goals as goal

pub returns-clause-value : goal.returns-clause-value
returns-clause-value c = search eight_end

pub returns-clause-table_after : goal.returns-clause-table_after
returns-clause-table_after c = search eight_words
