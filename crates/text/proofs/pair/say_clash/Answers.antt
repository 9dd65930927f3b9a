-- By what the guard's judging answers.
use Rattle.text.proofs.PairLaws.{clash_absent, clash_none, clash_said_lem}
use Rattle.text.proofs.pair.say_clash.Goals as goal

pub returns-then-null_at : goal.returns-then-null_at
returns-then-null_at c = search clash_absent

pub returns-in_default : goal.returns-in_default
returns-in_default c = search clash_none

pub returns : goal.returns
returns c = search clash_said_lem
