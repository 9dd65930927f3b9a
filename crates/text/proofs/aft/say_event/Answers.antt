-- By whether there is the group, and whether it has so many variants.
use Rattle.text.proofs.VariantLaws.{no_group_said, event_absent, event_said_lem}
use Rattle.text.proofs.aft.say_event.Goals as goal

pub returns-in_err-variants : goal.returns-in_err-variants
returns-in_err-variants c = rw c.from_residual.ensures (search (no_group_said, c.in_err-variants.was))

pub returns-in_err-k : goal.returns-in_err-k
returns-in_err-k c = rw c.from_residual-in_err-k.ensures (search (event_absent, c.in_err-k.was, c.in_ok-variants.was))

pub returns : goal.returns
returns c = search (event_said_lem, c.in_ok-variants.was, c.in_ok-k.was)
