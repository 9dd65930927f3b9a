-- By whether there are so many transitions.
use Rattle.text.proofs.SayLaws.{pair_past, pair_alone, pair_there}
use Rattle.text.proofs.say.say_pair_at.Goals as goal
use Rattle.text.proofs.say.say_pair_at.Goals.{then-count-i-via-then-count-i, then-count-i-via-else-count-i+then-count-j}

pub returns-then-count-i : goal.returns-then-count-i
returns-then-count-i c =
    elim c.then-count-i.branch [
      | then-count-i-via-then-count-i w ↦ search pair_past
      | then-count-i-via-else-count-i+then-count-j w ↦ search pair_alone
    ]

pub returns : goal.returns
returns c = search pair_there
