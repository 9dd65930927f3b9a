-- One after another.
use Rattle.findings.proofs.ModuleLaws.{doubts_noted}
use Rattle.findings.proofs.warnings.note_doubts.Goals as goal

pub returns-clause-notes_doubts : goal.returns-clause-notes_doubts
returns-clause-notes_doubts c = search doubts_noted
