-- Where no two are alike there is nothing to note.
use Rattle.findings.proofs.StateTurns.{pairs_nothing}
use Rattle.findings.proofs.pairs.note_pairs.Goals as goal

pub returns-then-no_pairs-clause-notes_pairs : goal.returns-then-no_pairs-clause-notes_pairs
returns-then-no_pairs-clause-notes_pairs c = search pairs_nothing
