-- The names stand where the row says; the pattern is told by a number.
use Rattle.findings.proofs.TransitionLaws.{heads_noted}
use Rattle.findings.proofs.transition.note_heads.Goals as goal

pub returns-clause-notes_heads : goal.returns-clause-notes_heads
returns-clause-notes_heads c = search heads_noted
