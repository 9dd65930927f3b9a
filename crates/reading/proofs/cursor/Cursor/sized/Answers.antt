-- By the test.
use Rattle.reading.proofs.Answers.{tests}
use Rattle.reading.specs.Combine.{sized}
use Rattle.reading.proofs.cursor.Cursor.sized.Goals as goal

pub returns-then-tag-due : goal.returns-then-tag-due
unfolding sized
returns-then-tag-due c = search tests

pub returns : goal.returns
unfolding sized
returns c = search tests
