use Rattle.std.specs.Prelude.{◌≡◌, None}
use native.Mathlib.Omega.{arith}
use borrow.Author.Rules.{rules}
use Rattle.typing.proofs.OutputLaws.{within_at, find_listed, find_there, find_not}
use Rattle.typing.proofs.output.find_variant.Goals as goal

pub returns-then-q-eq0 : goal.returns-then-q-eq0
returns-then-q-eq0 c = search find_listed

pub returns-in_err-i : goal.returns-in_err-i
returns-in_err-i c = let e : c.from_residual.result ≡ None = search rules in rw e (search (find_not, c.in_err-i.was))

pub overflow_add-q-2 : goal.overflow_add-q-2
overflow_add-q-2 c = omega (arith, within_at _ _ c.in_ok-i.was c.roll_find.ensures.within_table)

pub returns : goal.returns
returns c = search (find_there, c.in_ok-i.was)
