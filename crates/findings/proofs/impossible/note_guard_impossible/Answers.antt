-- By what the guard's judging answers.
use Rattle.findings.proofs.NoteLaws.{note_more}
use Rattle.findings.proofs.ImpossibleLaws.{guard_absent, guard_false, guard_fine, guard_clash}
use Rattle.findings.proofs.impossible.note_guard_impossible.Goals as goal

pub returns-then-null_at-clause-notes_guard_impossible : goal.returns-then-null_at-clause-notes_guard_impossible
returns-then-null_at-clause-notes_guard_impossible c = search guard_absent

pub returns-then-is_literal_false-clause-notes_guard_impossible : goal.returns-then-is_literal_false-clause-notes_guard_impossible
returns-then-is_literal_false-clause-notes_guard_impossible c = search guard_false

pub returns-then-is_literal_false-clause-upper_bound : goal.returns-then-is_literal_false-clause-upper_bound
returns-then-is_literal_false-clause-upper_bound c = search note_more

pub returns-in-None-clause-notes_guard_impossible : goal.returns-in-None-clause-notes_guard_impossible
returns-in-None-clause-notes_guard_impossible c = search guard_fine

pub returns-in-Some-clause-notes_guard_impossible : goal.returns-in-Some-clause-notes_guard_impossible
returns-in-Some-clause-notes_guard_impossible c = search guard_clash

pub returns-in-Some-clause-upper_bound : goal.returns-in-Some-clause-upper_bound
returns-in-Some-clause-upper_bound c = search note_more
