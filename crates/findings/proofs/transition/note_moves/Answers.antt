-- By the first words of the table.
use Rattle.findings.proofs.TransitionLaws.{moves_noted}
use Rattle.findings.proofs.transition.note_moves.Goals as goal

pub returns-clause-notes_moves : goal.returns-clause-notes_moves
returns-clause-notes_moves c = search moves_noted
