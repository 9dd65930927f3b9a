-- By whether there are so many.
use Rattle.text.proofs.ForeLaws.{var_absent, var_said_lem}
use Rattle.text.proofs.fore.say_var.Goals as goal

pub returns-in_err-k : goal.returns-in_err-k
returns-in_err-k c = rw c.from_residual.ensures (search (var_absent, c.in_err-k.was))

pub returns : goal.returns
returns c = search (var_said_lem, c.in_ok-k.was)
