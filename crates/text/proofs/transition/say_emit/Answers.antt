-- By whether there is one, then by its judging.
use Rattle.text.proofs.SetLaws.{emit_none, emit_said_lem}
use Rattle.text.proofs.transition.say_emit.Goals as goal

pub returns-in_err-k : goal.returns-in_err-k
returns-in_err-k c = rw c.from_residual.ensures (search (emit_none, c.in_err-k.was))

pub returns : goal.returns
returns c = search (emit_said_lem, c.in_ok-k.was)
