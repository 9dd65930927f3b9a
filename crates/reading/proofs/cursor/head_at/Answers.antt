-- By the tests on the way.
use Rattle.reading.specs.Head.{read_head}
use Rattle.reading.proofs.Answers.{tests}
use Rattle.reading.proofs.cursor.head_at.Goals as goal

pub returns-then-doc-at : goal.returns-then-doc-at
unfolding read_head
returns-then-doc-at c = search tests

pub returns : goal.returns
unfolding read_head
returns c = search tests
