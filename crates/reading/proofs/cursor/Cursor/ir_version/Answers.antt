-- By the tests on the way.
use Rattle.std.proofs.Common.{rules}
use Rattle.reading.specs.Item.{read_ir_version}
use Rattle.reading.proofs.Answers.{tests, got, out}
use Rattle.reading.proofs.cursor.Cursor.ir_version.Goals as goal

pub returns-in_err-version : goal.returns-in_err-version
unfolding read_ir_version
returns-in_err-version c = search (rules, tests, out _ c.kind.ensures c.in_err-version.was)

pub returns-then-version-gt-VERSION : goal.returns-then-version-gt-VERSION
unfolding read_ir_version
returns-then-version-gt-VERSION c = search (tests, got _ c.kind.ensures c.in_ok-version.was)

pub returns : goal.returns
unfolding read_ir_version
returns c = search (tests, got _ c.kind.ensures c.in_ok-version.was)
