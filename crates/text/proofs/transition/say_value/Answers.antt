-- By whether there is one; its value stands after its variable.
use Rattle.text.proofs.SetLaws.{value_none, value_said_lem}
use Rattle.text.proofs.transition.say_value.Goals as goal

pub returns-in_err-k : goal.returns-in_err-k
returns-in_err-k c = rw c.from_residual.ensures (search (value_none, c.in_err-k.was))

pub returns : goal.returns
returns c = search (value_said_lem, c.in_ok-k.was)
