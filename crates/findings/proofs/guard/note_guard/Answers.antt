-- By whether it is absent, then by its type.
use Rattle.findings.proofs.NoteLaws.{note_more}
use Rattle.findings.proofs.GuardLaws.{guard_absent, guard_typed_lem, guard_fails}
use Rattle.findings.proofs.guard.note_guard.Goals as goal

pub returns-then-null_at-clause-notes_guard : goal.returns-then-null_at-clause-notes_guard
returns-then-null_at-clause-notes_guard c = search guard_absent

pub returns-in-Ok-clause-notes_guard : goal.returns-in-Ok-clause-notes_guard
returns-in-Ok-clause-notes_guard c = search guard_typed_lem

pub returns-in-Err-clause-notes_guard : goal.returns-in-Err-clause-notes_guard
returns-in-Err-clause-notes_guard c = search guard_fails

pub returns-in-Err-clause-upper_bound : goal.returns-in-Err-clause-upper_bound
returns-in-Err-clause-upper_bound c = search note_more
