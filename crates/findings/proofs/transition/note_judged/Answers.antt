-- The notes of the heads, then those of the body.
use Rattle.findings.proofs.TransitionLaws.{judged_noted}
use Rattle.findings.proofs.transition.note_judged.Goals as goal

pub returns-clause-notes_judged : goal.returns-clause-notes_judged
returns-clause-notes_judged c = search judged_noted
