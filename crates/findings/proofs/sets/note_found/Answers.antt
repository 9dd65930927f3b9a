-- By whether the variable is known, then by the type of the value.
use Rattle.findings.proofs.NoteLaws.{note_more}
use Rattle.findings.proofs.SetLaws.{set_unknown, set_known}
use Rattle.findings.proofs.sets.note_found.Goals as goal

pub returns-in_default-clause-notes_found : goal.returns-in_default-clause-notes_found
returns-in_default-clause-notes_found c = search set_unknown

pub returns-in_default-clause-upper_bound : goal.returns-in_default-clause-upper_bound
returns-in_default-clause-upper_bound c = search note_more

pub returns-clause-notes_found : goal.returns-clause-notes_found
returns-clause-notes_found c = search set_known
