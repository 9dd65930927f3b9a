-- By whether something leads to it.
use Rattle.findings.proofs.UnledLaws.{unled_noted}
use Rattle.findings.proofs.reach.note_unled.Goals as goal

pub returns-clause-notes_unled : goal.returns-clause-notes_unled
returns-clause-notes_unled c = search unled_noted
