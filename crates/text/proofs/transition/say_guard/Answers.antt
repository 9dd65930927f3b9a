-- By whether it is absent, then by why it has no type.
use Rattle.text.proofs.GuardLaws.{guard_absent, guard_said_lem}
use Rattle.text.proofs.transition.say_guard.Goals as goal

pub returns-then-null_at : goal.returns-then-null_at
returns-then-null_at c = search guard_absent

pub returns : goal.returns
returns c = search guard_said_lem
