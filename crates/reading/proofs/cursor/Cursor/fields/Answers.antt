-- By the tests on the way.
use Rattle.std.proofs.Common.{rules}
use Rattle.reading.specs.Item.{read_fields}
use Rattle.reading.proofs.Answers.{tests, got, out}
use Rattle.reading.proofs.cursor.Cursor.fields.Goals as goal

pub returns-in_err-count : goal.returns-in_err-count
unfolding read_fields
returns-in_err-count c = search (rules, tests, out _ c.kind.ensures c.in_err-count.was)

pub returns-then-count-fields : goal.returns-then-count-fields
unfolding read_fields
returns-then-count-fields c = search (tests, got _ c.kind.ensures c.in_ok-count.was)

pub returns-else-count-fields : goal.returns-else-count-fields
unfolding read_fields
returns-else-count-fields c = search (tests, got _ c.kind.ensures c.in_ok-count.was)
