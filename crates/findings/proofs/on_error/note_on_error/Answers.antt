-- By whether there is one.
use Rattle.findings.proofs.OnErrorLaws.{on_error_absent, on_error_given}
use Rattle.findings.proofs.on_error.note_on_error.Goals as goal

pub returns-then-null_at-clause-notes_on_error : goal.returns-then-null_at-clause-notes_on_error
returns-then-null_at-clause-notes_on_error c = search on_error_absent

pub returns-clause-notes_on_error : goal.returns-clause-notes_on_error
returns-clause-notes_on_error c = search on_error_given
