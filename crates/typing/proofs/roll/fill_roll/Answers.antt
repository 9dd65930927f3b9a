-- None where the items are too few or have no room.
use Rattle.typing.proofs.RollLaws.{roll_none, roll_done}
use Rattle.typing.proofs.roll.fill_roll.Goals as goal

pub returns-then-e-least-clause-puts_roll : goal.returns-then-e-least-clause-puts_roll
returns-then-e-least-clause-puts_roll c = search roll_none

pub returns-then-table-q-clause-puts_roll : goal.returns-then-table-q-clause-puts_roll
returns-then-table-q-clause-puts_roll c = search roll_none

pub returns-clause-puts_roll : goal.returns-clause-puts_roll
returns-clause-puts_roll c = search roll_done
