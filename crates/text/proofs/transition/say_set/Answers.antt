-- By whether there is one; its variable stands after its head.
use Rattle.text.proofs.SetLaws.{set_none, set_said_lem}
use Rattle.text.proofs.transition.say_set.Goals as goal

pub returns-in_err-k : goal.returns-in_err-k
returns-in_err-k c = rw c.from_residual.ensures (search (set_none, c.in_err-k.was))

pub returns : goal.returns
returns c = search (set_said_lem, c.in_ok-k.was)
