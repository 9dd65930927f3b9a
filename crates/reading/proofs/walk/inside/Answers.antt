-- By the major type.
use Rattle.reading.specs.Items.{inside}
use Rattle.reading.proofs.Answers.{tests}
use Rattle.reading.proofs.walk.inside.Goals as goal

pub returns-then-head-eq4 : goal.returns-then-head-eq4
unfolding inside
returns-then-head-eq4 c = search tests

pub returns-else-head-eq4 : goal.returns-else-head-eq4
unfolding inside
returns-else-head-eq4 c = search tests
