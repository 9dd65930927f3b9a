-- By the tests on the way.
use Rattle.std.proofs.Common.{rules}
use Rattle.reading.specs.Item.{read_bool}
use Rattle.reading.proofs.Answers.{tests, got, out}
use Rattle.reading.proofs.cursor.Cursor.boolean.Goals as goal

pub returns-in_err-simple : goal.returns-in_err-simple
unfolding read_bool
returns-in_err-simple c = search (rules, tests, out _ c.any_kind.ensures c.in_err-simple.was)

pub returns-in-20 : goal.returns-in-20
unfolding read_bool
returns-in-20 c = search (tests, c.in-20.is, got _ c.any_kind.ensures c.in_ok-simple.was)

pub returns-in-21 : goal.returns-in-21
unfolding read_bool
returns-in-21 c = search (tests, c.in-21.is, got _ c.any_kind.ensures c.in_ok-simple.was)

pub returns-in_default : goal.returns-in_default
unfolding read_bool
returns-in_default c = search (tests, got _ c.any_kind.ensures c.in_ok-simple.was)
