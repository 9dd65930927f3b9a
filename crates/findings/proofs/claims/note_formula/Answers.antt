-- The formula first, then its bounds.
use Rattle.findings.proofs.ClaimLaws.{formula_noted}
use Rattle.findings.proofs.claims.note_formula.Goals as goal

pub returns-clause-notes_formula : goal.returns-clause-notes_formula
returns-clause-notes_formula c = search formula_noted
