-- By the tests on the way.
use Rattle.std.proofs.Common.{rules}
use Rattle.reading.specs.Item.{read_number}
use Rattle.reading.proofs.Answers.{tests, got, out}
use Rattle.reading.proofs.cursor.Cursor.number.Goals as goal

pub returns-in_err-value : goal.returns-in_err-value
unfolding read_number
returns-in_err-value c = search (rules, tests, out _ c.kind.ensures c.in_err-value.was)

pub returns-then-limit-value : goal.returns-then-limit-value
unfolding read_number
returns-then-limit-value c = search (tests, got _ c.kind.ensures c.in_ok-value.was)

pub returns : goal.returns
unfolding read_number
returns c = search (tests, got _ c.kind.ensures c.in_ok-value.was)
