-- By the tests on the way.
use Rattle.std.proofs.Common.{rules}
use Rattle.reading.specs.Item.{read_count}
use Rattle.reading.proofs.Answers.{tests, got, out}
use Rattle.reading.proofs.cursor.Cursor.count.Goals as goal

pub returns-in_err-entries : goal.returns-in_err-entries
unfolding read_count
returns-in_err-entries c = search (rules, tests, out _ c.kind.ensures c.in_err-entries.was)

pub returns-then-limit-entries : goal.returns-then-limit-entries
unfolding read_count
returns-then-limit-entries c = search (tests, got _ c.kind.ensures c.in_ok-entries.was)

pub returns : goal.returns
unfolding read_count
returns c = search (tests, got _ c.kind.ensures c.in_ok-entries.was)
