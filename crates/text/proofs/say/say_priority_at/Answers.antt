-- By whether there are so many transitions.
use Rattle.text.proofs.SayLaws.{priority_past, priority_alone, priority_there}
use Rattle.text.proofs.say.say_priority_at.Goals as goal
use Rattle.text.proofs.say.say_priority_at.Goals.{then-count-i-via-then-count-i, then-count-i-via-else-count-i+then-count-j}

pub returns-then-count-i : goal.returns-then-count-i
returns-then-count-i c =
    elim c.then-count-i.branch [
      | then-count-i-via-then-count-i w ↦ search priority_past
      | then-count-i-via-else-count-i+then-count-j w ↦ search priority_alone
    ]

pub returns : goal.returns
returns c = search priority_there
