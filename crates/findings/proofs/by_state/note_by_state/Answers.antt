-- By the tables of kinds and guards.
use borrow.Author.Rules.{rules}
use Rattle.findings.proofs.by_state.note_by_state.Goals as goal

pub note_states-requires-clause-classed : goal.note_states-requires-clause-classed
note_states-requires-clause-classed c = record { kinds_are = search rules; guards_are = search rules }
