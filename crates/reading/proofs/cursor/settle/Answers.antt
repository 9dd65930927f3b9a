-- By the test.
use Rattle.reading.specs.Head.{settled}
use Rattle.reading.proofs.Answers.{tests}
use Rattle.reading.proofs.cursor.settle.Goals as goal

pub returns-then-argument-least : goal.returns-then-argument-least
unfolding settled
returns-then-argument-least c = search tests

pub returns-else-argument-least : goal.returns-else-argument-least
unfolding settled
returns-else-argument-least c = search tests
