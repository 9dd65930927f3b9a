-- By whether there are so many variables.
use Rattle.text.proofs.ForeLaws.{init_absent, init_said_lem}
use Rattle.text.proofs.fore.say_init.Goals as goal

pub returns-in_err-k : goal.returns-in_err-k
returns-in_err-k c = rw c.from_residual.ensures (search (init_absent, c.in_err-k.was))

pub returns : goal.returns
returns c = search (init_said_lem, c.in_ok-k.was)
