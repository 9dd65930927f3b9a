-- By whether there is the group, and whether it has so many variants.
use mathlib.Core.Path.{refl}
use Rattle.text.specs.Message.{site_form}
use Rattle.text.proofs.ListedLaws.{entry_form, event_put}
use Rattle.text.proofs.VariantLaws.{no_group_said, event_absent}
use Rattle.text.proofs.PieceLaws.{puts_none}
use Rattle.text.proofs.listed.put_event_at.Goals as goal

pub returns-in_default-clause-puts_said : goal.returns-in_default-clause-puts_said
returns-in_default-clause-puts_said c = puts_none (search no_group_said)

pub returns-in_default-entry_at-clause-puts_said : goal.returns-in_default-entry_at-clause-puts_said
returns-in_default-entry_at-clause-puts_said c = puts_none (search event_absent)

pub returns-clause-puts_said : goal.returns-clause-puts_said
returns-clause-puts_said c = search event_put

pub put_entry-requires-clause-entry_form : goal.put_entry-requires-clause-entry_form
unfolding site_form
put_entry-requires-clause-entry_form c = entry_form 22 _ _ refl refl refl
