-- By whether the table has so many.
use mathlib.Core.Path.{refl}
use Rattle.text.specs.Message.{site_form}
use Rattle.text.proofs.ListedLaws.{entry_form, claim_put}
use Rattle.text.proofs.ClaimLaws.{claim_absent}
use Rattle.text.proofs.PieceLaws.{puts_none}
use Rattle.text.proofs.listed.put_claim_at.Goals as goal

pub returns-then-claims-i-clause-puts_said : goal.returns-then-claims-i-clause-puts_said
returns-then-claims-i-clause-puts_said c = puts_none (search claim_absent)

pub returns-clause-puts_said : goal.returns-clause-puts_said
returns-clause-puts_said c = search claim_put

pub put_entry-requires-clause-entry_form : goal.put_entry-requires-clause-entry_form
unfolding site_form
put_entry-requires-clause-entry_form c = entry_form 18 _ _ refl refl refl
