-- By whether there are so many transitions.
use Rattle.text.proofs.PieceLaws.{puts_none}
use Rattle.text.proofs.BlamedLaws.{judged_past, puts_judged}
use Rattle.text.proofs.judged.put_judged_at.Goals as goal

pub returns-then-count-i-clause-puts_said : goal.returns-then-count-i-clause-puts_said
returns-then-count-i-clause-puts_said c = puts_none (search judged_past)

pub returns-clause-puts_said : goal.returns-clause-puts_said
returns-clause-puts_said c = search puts_judged
