-- The array, then the case number.
use Rattle.std.proofs.Common.{rules}
use Rattle.reading.specs.Item.{read_tag}
use Rattle.reading.proofs.Answers.{tests, got, out}
use Rattle.reading.proofs.cursor.Cursor.any_tag.Goals as goal

pub returns-in_err-count : goal.returns-in_err-count
unfolding read_tag
returns-in_err-count c = search (rules, tests, out _ c.kind.ensures c.in_err-count.was)

pub returns-then-count-eq0 : goal.returns-then-count-eq0
unfolding read_tag
returns-then-count-eq0 c = search (tests, got _ c.kind.ensures c.in_ok-count.was)

pub returns-in_err-case : goal.returns-in_err-case
unfolding read_tag
returns-in_err-case c = search (rules, tests, out _ c.kind-2.ensures c.in_err-case.was, got _ c.kind.ensures c.in_ok-count.was)

pub returns : goal.returns
unfolding read_tag
returns c = search (tests, got _ c.kind-2.ensures c.in_ok-case.was, got _ c.kind.ensures c.in_ok-count.was)
