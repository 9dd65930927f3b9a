-- By whether there is one, and whether it emits so many.
use Rattle.text.proofs.PieceLaws.{puts_none}
use Rattle.text.proofs.ErrorLaws.{error_silent, error_emit_absent}
use Rattle.text.proofs.BlamedLaws.{error_emit_put}
use Rattle.text.proofs.typed.put_error_emit_at.Goals as goal

pub returns-then-null_at-clause-puts_said : goal.returns-then-null_at-clause-puts_said
returns-then-null_at-clause-puts_said c = puts_none (search error_silent)

pub returns-in_default-clause-puts_said : goal.returns-in_default-clause-puts_said
returns-in_default-clause-puts_said c = puts_none (search error_emit_absent)

pub returns-clause-puts_said : goal.returns-clause-puts_said
returns-clause-puts_said c = search error_emit_put
