-- By the major type.
use Rattle.reading.specs.Items.{payload}
use Rattle.reading.proofs.Answers.{tests}
use Rattle.reading.proofs.walk.payload.Goals as goal

pub returns-then-head-eq3 : goal.returns-then-head-eq3
unfolding payload
returns-then-head-eq3 c = search tests

pub returns-else-head-eq3 : goal.returns-else-head-eq3
unfolding payload
returns-else-head-eq3 c = search tests
