-- By whether there is one; its value stands after its variable.
use mathlib.Core.Path.{refl}
use Rattle.text.specs.Message.{site_form}
use Rattle.text.proofs.ListedLaws.{set_form}
use Rattle.text.proofs.PieceLaws.{puts_none}
use Rattle.text.proofs.SetLaws.{value_none}
use Rattle.text.proofs.BlamedLaws.{value_put}
use Rattle.text.proofs.judged.put_value.Goals as goal

pub returns-in_default-clause-puts_said : goal.returns-in_default-clause-puts_said
returns-in_default-clause-puts_said c = puts_none (search value_none)

pub returns-clause-puts_said : goal.returns-clause-puts_said
returns-clause-puts_said c = search value_put

pub put_assigned-requires-clause-set_form : goal.put_assigned-requires-clause-set_form
unfolding site_form
put_assigned-requires-clause-set_form c = set_form 12 _ _ refl refl refl
