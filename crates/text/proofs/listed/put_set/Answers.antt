-- By whether there is one; its variable stands after its head.
use mathlib.Core.Path.{refl}
use Rattle.text.specs.Message.{site_form}
use Rattle.text.proofs.ListedLaws.{set_form, set_put}
use Rattle.text.proofs.SetLaws.{set_none}
use Rattle.text.proofs.PieceLaws.{puts_none}
use Rattle.text.proofs.listed.put_set.Goals as goal

pub returns-in_default-clause-puts_said : goal.returns-in_default-clause-puts_said
returns-in_default-clause-puts_said c = puts_none (search set_none)

pub returns-clause-puts_said : goal.returns-clause-puts_said
returns-clause-puts_said c = search set_put

pub put_assigned-requires-clause-set_form : goal.put_assigned-requires-clause-set_form
unfolding site_form
put_assigned-requires-clause-set_form c = set_form 11 _ _ refl refl refl
