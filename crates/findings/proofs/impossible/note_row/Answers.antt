-- By the places in the row.
use Rattle.findings.proofs.ImpossibleLaws.{guard_at}
use Rattle.findings.proofs.impossible.note_row.Goals as goal

pub returns-clause-notes_guard_impossible : goal.returns-clause-notes_guard_impossible
returns-clause-notes_guard_impossible c = search guard_at
