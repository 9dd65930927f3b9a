-- By the number of the row.
use Rattle.reading.proofs.Answers.{tests}
use Rattle.reading.specs.Short.{name_row}
use Rattle.reading.proofs.text.name_row.Goals as goal

pub returns-in-1 : goal.returns-in-1
unfolding name_row
returns-in-1 c = search (tests, c.in-1.is)

pub returns-in-2 : goal.returns-in-2
unfolding name_row
returns-in-2 c = search (tests, c.in-2.is)

pub returns-in-3 : goal.returns-in-3
unfolding name_row
returns-in-3 c = search (tests, c.in-3.is)

pub returns-in_default : goal.returns-in_default
unfolding name_row
returns-in_default c = search (tests, c.in_default.in_default-own.rest.0.0.1, c.in_default.in_default-own.rest.0.1, c.in_default.in_default-own.rest.1)
