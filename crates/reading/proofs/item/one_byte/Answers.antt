-- By the tests on the way.
use Rattle.reading.proofs.Answers.{tests}
use Rattle.reading.specs.Short.{is_one_byte}
use Rattle.reading.proofs.item.one_byte.Goals as goal

pub returns-then-due-gt6 : goal.returns-then-due-gt6
unfolding is_one_byte
returns-then-due-gt6 c = search tests

pub returns-then-b-first : goal.returns-then-b-first
unfolding is_one_byte
returns-then-b-first c = search tests

pub returns : goal.returns
unfolding is_one_byte
returns c = search tests
