-- By whether there are so many transitions.
use Rattle.text.proofs.SayLaws.{pair_past, pair_alone}
use Rattle.text.proofs.PieceLaws.{puts_none, puts_pair}
use Rattle.text.proofs.pieces.put_pair_at.Goals as goal
use Rattle.text.proofs.pieces.put_pair_at.Goals.{then-count-i-via-then-count-i, then-count-i-via-else-count-i+then-count-j}

pub returns-then-count-i-clause-puts_said : goal.returns-then-count-i-clause-puts_said
returns-then-count-i-clause-puts_said c =
    puts_none (elim c.then-count-i.branch [
      | then-count-i-via-then-count-i w ↦ search pair_past
      | then-count-i-via-else-count-i+then-count-j w ↦ search pair_alone
    ])

pub returns-clause-puts_said : goal.returns-clause-puts_said
returns-clause-puts_said c = search puts_pair
