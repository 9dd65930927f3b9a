-- By the tests on the way.
use Rattle.reading.specs.Head.{head_with}
use Rattle.reading.proofs.Answers.{tests}
use Rattle.reading.proofs.cursor.head_with.Goals as goal

pub returns-then-info-gt27 : goal.returns-then-info-gt27
unfolding head_with
returns-then-info-gt27 c = search tests

pub returns-then-major-eq7 : goal.returns-then-major-eq7
unfolding head_with
returns-then-major-eq7 c = search tests

pub returns-in-0-to-23 : goal.returns-in-0-to-23
unfolding head_with
returns-in-0-to-23 c = search tests

pub returns-in_default : goal.returns-in_default
unfolding head_with
returns-in_default c = search tests
