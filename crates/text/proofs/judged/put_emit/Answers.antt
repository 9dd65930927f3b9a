-- By whether there is one, then by its judging.
use mathlib.Core.Path.{refl}
use Rattle.text.specs.Message.{site_form}
use Rattle.text.proofs.PieceLaws.{puts_none}
use Rattle.text.proofs.SetLaws.{emit_none}
use Rattle.text.proofs.ListedLaws.{row_form}
use Rattle.text.proofs.BlamedLaws.{emit_put}
use Rattle.text.proofs.judged.put_emit.Goals as goal

pub returns-in_default-clause-puts_said : goal.returns-in_default-clause-puts_said
returns-in_default-clause-puts_said c = puts_none (search emit_none)

pub put_row-requires-clause-row_form : goal.put_row-requires-clause-row_form
unfolding site_form
put_row-requires-clause-row_form c = row_form 13 _ refl refl

pub returns-clause-puts_said : goal.returns-clause-puts_said
returns-clause-puts_said c = search emit_put
