-- By whether there is one.
use Rattle.findings.proofs.OpeningLaws.{version_absent, version_given}
use Rattle.findings.proofs.opening.note_version.Goals as goal

pub returns-then-null_at-clause-notes_version : goal.returns-then-null_at-clause-notes_version
returns-then-null_at-clause-notes_version c = search version_absent

pub returns-clause-notes_version : goal.returns-clause-notes_version
returns-clause-notes_version c = search version_given
