-- By whether there are so many.
use mathlib.Core.Path.{refl}
use Rattle.text.specs.Message.{site_form}
use Rattle.text.proofs.ListedLaws.{entry_form, var_put}
use Rattle.text.proofs.ForeLaws.{var_absent}
use Rattle.text.proofs.PieceLaws.{puts_none}
use Rattle.text.proofs.listed.put_var_at.Goals as goal

pub returns-in_default-clause-puts_said : goal.returns-in_default-clause-puts_said
returns-in_default-clause-puts_said c = puts_none (search var_absent)

pub returns-clause-puts_said : goal.returns-clause-puts_said
returns-clause-puts_said c = search var_put

pub put_entry-requires-clause-entry_form : goal.put_entry-requires-clause-entry_form
unfolding site_form
put_entry-requires-clause-entry_form c = entry_form 23 _ _ refl refl refl
