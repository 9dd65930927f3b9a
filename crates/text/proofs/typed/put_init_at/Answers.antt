-- By whether there are so many variables.
use mathlib.Core.Path.{refl}
use Rattle.text.specs.Message.{site_form}
use Rattle.text.proofs.PieceLaws.{puts_none}
use Rattle.text.proofs.ForeLaws.{init_absent}
use Rattle.text.proofs.ListedLaws.{entry_form}
use Rattle.text.proofs.BlamedLaws.{init_put}
use Rattle.text.proofs.typed.put_init_at.Goals as goal

pub returns-in_default-clause-puts_said : goal.returns-in_default-clause-puts_said
returns-in_default-clause-puts_said c = puts_none (search init_absent)

pub put_entry-requires-clause-entry_form : goal.put_entry-requires-clause-entry_form
unfolding site_form
put_entry-requires-clause-entry_form c = entry_form 5 _ _ refl refl refl

pub returns-clause-puts_said : goal.returns-clause-puts_said
returns-clause-puts_said c = search init_put
