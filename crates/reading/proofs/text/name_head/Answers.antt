-- By the tests on the way.
use Rattle.reading.proofs.Answers.{tests}
use Rattle.reading.specs.Short.{name_head}
use Rattle.reading.proofs.text.name_head.Goals as goal

pub returns-in-97-to-119 : goal.returns-in-97-to-119
unfolding name_head
returns-in-97-to-119 c = search tests

pub returns-in_default : goal.returns-in_default
unfolding name_head
returns-in_default c = search tests

pub returns-in_default-2 : goal.returns-in_default-2
unfolding name_head
returns-in_default-2 c = search tests
