-- By the number of what is wrong.
use Rattle.findings.proofs.OutputLaws.{output_noted}
use Rattle.findings.proofs.output.note_output.Goals as goal

pub returns-clause-notes_output : goal.returns-clause-notes_output
returns-clause-notes_output c = search output_noted
