use Rattle.std.specs.Prelude.{◌≡◌, Err}
use borrow.Author.Rules.{rules}
use Rattle.typing.proofs.JudgeLaws.{formula_deep, formula_no_tag, formula_input, formula_output, formula_expression, formula_one, formula_always, formula_sometime, formula_two, formula_unknown, bounded_none, bounded_goes, two_fails, two_goes}
use Rattle.typing.proofs.temporal.+type_bounded_type_formula_type_two.Goals as goal

pub type_bounded-returns-in_default : goal.type_bounded-returns-in_default
type_bounded-returns-in_default t c = search bounded_none

pub type_bounded-returns : goal.type_bounded-returns
type_bounded-returns t c = search bounded_goes

pub type_formula-returns-then-depth-eq0 : goal.type_formula-returns-then-depth-eq0
type_formula-returns-then-depth-eq0 t c = search formula_deep

pub type_formula-returns-in_default : goal.type_formula-returns-in_default
type_formula-returns-in_default t c = search formula_no_tag

pub type_formula-returns-in-Input : goal.type_formula-returns-in-Input
type_formula-returns-in-Input t c = search formula_input

pub type_formula-returns-in-Output : goal.type_formula-returns-in-Output
type_formula-returns-in-Output t c = search formula_output

pub type_formula-returns-in-Expression : goal.type_formula-returns-in-Expression
type_formula-returns-in-Expression t c = search formula_expression

pub type_formula-returns-in-One : goal.type_formula-returns-in-One
type_formula-returns-in-One t c = search formula_one

pub type_formula-returns-in-Always : goal.type_formula-returns-in-Always
type_formula-returns-in-Always t c = search formula_always

pub type_formula-returns-in-Sometime : goal.type_formula-returns-in-Sometime
type_formula-returns-in-Sometime t c = search formula_sometime

pub type_formula-returns-in-Two : goal.type_formula-returns-in-Two
type_formula-returns-in-Two t c = search formula_two

pub type_formula-returns-in-Unknown : goal.type_formula-returns-in-Unknown
type_formula-returns-in-Unknown t c = search formula_unknown

pub type_two-returns-in_err-type_formula : goal.type_two-returns-in_err-type_formula
type_two-returns-in_err-type_formula t c = let e : c.from_residual.result ≡ Err c.in_err-type_formula.field-0.0 = search rules in search (two_fails, c.in_err-type_formula.was)

pub type_two-returns : goal.type_two-returns
type_two-returns t c = search (two_goes, c.in_ok-type_formula.was)
