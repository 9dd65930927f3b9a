-- By whether there are State variants, and so many.
use Rattle.text.proofs.VariantLaws.{no_states_said, variant_absent, variant_said_lem}
use Rattle.text.proofs.aft.say_variant.Goals as goal

pub returns-in_err-states : goal.returns-in_err-states
returns-in_err-states c = rw c.from_residual.ensures (search (no_states_said, c.in_err-states.was))

pub returns-in_err-k : goal.returns-in_err-k
returns-in_err-k c = rw c.from_residual-in_err-k.ensures (search (variant_absent, c.in_err-k.was, c.in_ok-states.was))

pub returns : goal.returns
returns c = search (variant_said_lem, c.in_ok-states.was, c.in_ok-k.was)
