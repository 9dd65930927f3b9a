-- By whether it is absent, then by its type.
use Rattle.text.proofs.GuardLaws.{guard_type_absent, guard_type_fails, guard_type_said_lem}
use Rattle.text.proofs.transition.say_guard_type.Goals as goal

pub returns-then-null_at : goal.returns-then-null_at
returns-then-null_at c = search guard_type_absent

pub returns-in_default : goal.returns-in_default
returns-in_default c = search guard_type_fails

pub returns : goal.returns
returns c = search guard_type_said_lem
