-- By the tests on the way.
use Rattle.std.proofs.Common.{rules}
use Rattle.reading.specs.Item.{read_case}
use Rattle.reading.proofs.Answers.{tests, got, out}
use Rattle.reading.proofs.cursor.Cursor.case_number.Goals as goal

pub returns-in_err-case : goal.returns-in_err-case
unfolding read_case
returns-in_err-case c = search (rules, tests, out _ c.kind.ensures c.in_err-case.was)

pub returns-then-case-cases : goal.returns-then-case-cases
unfolding read_case
returns-then-case-cases c = search (tests, got _ c.kind.ensures c.in_ok-case.was)

pub returns : goal.returns
unfolding read_case
returns c = search (tests, got _ c.kind.ensures c.in_ok-case.was)
