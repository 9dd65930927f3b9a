-- By whether there is one.
use Rattle.findings.proofs.OpeningLaws.{initial_absent, initial_given}
use Rattle.findings.proofs.opening.note_initial.Goals as goal

pub returns-then-null_at-clause-notes_initial : goal.returns-then-null_at-clause-notes_initial
returns-then-null_at-clause-notes_initial c = search initial_absent

pub returns-clause-notes_initial : goal.returns-clause-notes_initial
returns-clause-notes_initial c = search initial_given
