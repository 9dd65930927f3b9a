-- By the tests on the way.
use Rattle.reading.specs.Head.{simple}
use Rattle.reading.proofs.Answers.{tests}
use Rattle.reading.proofs.cursor.simple_head.Goals.{in_default-via-then-info-lt20, in_default-via-else-info-lt20+else-info-lt23}
use Rattle.reading.proofs.cursor.simple_head.Goals as goal

pub returns-in-20-to-22 : goal.returns-in-20-to-22
unfolding simple
returns-in-20-to-22 c = search tests

pub returns-in_default : goal.returns-in_default
unfolding simple
returns-in_default c = elim c.in_default.branch [ in_default-via-then-info-lt20 w ↦ search tests | in_default-via-else-info-lt20+else-info-lt23 w ↦ search tests ]
