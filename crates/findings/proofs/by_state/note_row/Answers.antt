-- Where the states are the same.
use Rattle.findings.proofs.StateTurns.{row_same, row_other}
use Rattle.findings.proofs.by_state.note_row.Goals as goal

pub returns-then-same_fields-clause-notes_row : goal.returns-then-same_fields-clause-notes_row
returns-then-same_fields-clause-notes_row c = search row_same

pub returns-clause-notes_row : goal.returns-clause-notes_row
returns-clause-notes_row c = search row_other
