-- By the tests on the way.
use Rattle.std.proofs.Common.{rules}
use Rattle.reading.specs.Item.{read_kind}
use Rattle.reading.proofs.Answers.{tests, got, out}
use Rattle.reading.proofs.cursor.Cursor.any_kind.Goals as goal

pub returns-in_err-head : goal.returns-in_err-head
unfolding read_kind
returns-in_err-head c = search (rules, tests, out _ c.head.ensures c.in_err-head.was)

pub returns-then-head-due : goal.returns-then-head-due
unfolding read_kind
returns-then-head-due c = search (tests, got _ c.head.ensures c.in_ok-head.was)

pub returns-else-head-due : goal.returns-else-head-due
unfolding read_kind
returns-else-head-due c = search (tests, got _ c.head.ensures c.in_ok-head.was)
