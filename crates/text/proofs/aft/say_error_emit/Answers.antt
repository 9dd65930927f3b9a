-- By whether there is one, and whether it emits so many.
use Rattle.text.proofs.ErrorLaws.{error_silent, error_emit_absent, error_emit_said_lem}
use Rattle.text.proofs.aft.say_error_emit.Goals as goal

pub returns-then-null_at : goal.returns-then-null_at
returns-then-null_at c = search error_silent

pub returns-in_err-k : goal.returns-in_err-k
returns-in_err-k c = rw c.from_residual.ensures (search (error_emit_absent, c.in_err-k.was))

pub returns : goal.returns
returns c = search (error_emit_said_lem, c.in_ok-k.was)
