-- By whether it is absent, then by why it has no type.
use mathlib.Core.Path.{refl}
use Rattle.text.specs.Message.{site_form}
use Rattle.text.proofs.PieceLaws.{puts_none}
use Rattle.text.proofs.GuardLaws.{guard_absent}
use Rattle.text.proofs.ListedLaws.{row_form}
use Rattle.text.proofs.BlamedLaws.{guard_put}
use Rattle.text.proofs.judged.put_guard.Goals as goal

pub returns-then-null_at-clause-puts_said : goal.returns-then-null_at-clause-puts_said
returns-then-null_at-clause-puts_said c = puts_none (search guard_absent)

pub put_row-requires-clause-row_form : goal.put_row-requires-clause-row_form
unfolding site_form
put_row-requires-clause-row_form c = row_form 9 _ refl refl

pub returns-clause-puts_said : goal.returns-clause-puts_said
returns-clause-puts_said c = search guard_put
