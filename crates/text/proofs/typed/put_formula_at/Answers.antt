-- By whether the table has so many.
use mathlib.Core.Path.{refl}
use Rattle.text.specs.Message.{site_form}
use Rattle.text.proofs.PieceLaws.{puts_none}
use Rattle.text.proofs.ClaimLaws.{formula_absent}
use Rattle.text.proofs.ListedLaws.{entry_form}
use Rattle.text.proofs.BlamedLaws.{formula_put}
use Rattle.text.proofs.typed.put_formula_at.Goals as goal

pub returns-then-claims-i-clause-puts_said : goal.returns-then-claims-i-clause-puts_said
returns-then-claims-i-clause-puts_said c = puts_none (search formula_absent)

pub put_entry-requires-clause-entry_form : goal.put_entry-requires-clause-entry_form
unfolding site_form
put_entry-requires-clause-entry_form c = entry_form 19 _ _ refl refl refl

pub returns-clause-puts_said : goal.returns-clause-puts_said
returns-clause-puts_said c = search formula_put
