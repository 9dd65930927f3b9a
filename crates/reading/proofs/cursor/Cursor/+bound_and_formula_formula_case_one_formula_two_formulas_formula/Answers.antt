-- By the levels left; each arm is the row of its number.
use Rattle.std.proofs.Common.{rules}
use mathlib.Core.Path.{refl}
use native.Mathlib.Omega.{arith}
use Rattle.reading.specs.Read.{pick}
use Rattle.reading.specs.Limits.{max_u64}
use Rattle.reading.specs.Item.{read_number}
use Rattle.reading.specs.Combine.{◌then◌, row, pair}
use Rattle.reading.specs.Expr.{read_expr}
use Rattle.reading.specs.Pattern.{read_pattern}
use Rattle.reading.specs.Formula.{input_is, output_has, expr, not, and, or, implies, next, always, bounded_always, bounded_eventually, eventually, until, read_formula, formula_cases}
use Rattle.reading.proofs.Threads.{on_error, enum_out, enum_on, sized_out, sized_on, then_out, then_on, one_stands}
use Rattle.reading.proofs.Levels.{formula_none, formula_level}
use Rattle.reading.proofs.Arms.{arm, formula_unknown}
use Rattle.reading.proofs.cursor.Cursor.+bound_and_formula_formula_case_one_formula_two_formulas_formula.Goals as goal

pub bound_and_formula-returns-in_err-sized : goal.bound_and_formula-returns-in_err-sized
bound_and_formula-returns-in_err-sized t c = on_error (sized_out _ _ _ _ (read_number max_u64 then read_formula _) c.sized.ensures c.in_err-sized.was) (search rules)

pub bound_and_formula-returns-in_err-past : goal.bound_and_formula-returns-in_err-past
bound_and_formula-returns-in_err-past t c = on_error (sized_on _ _ _ _ (read_number max_u64 then read_formula _) c.sized.ensures c.in_ok-sized.was (then_out _ _ _ _ c.past.ensures c.in_err-past.was)) (search rules)

pub bound_and_formula-returns : goal.bound_and_formula-returns
bound_and_formula-returns t c = sized_on _ _ _ _ (read_number max_u64 then read_formula _) c.sized.ensures c.in_ok-sized.was (then_on _ _ _ _ c.past.ensures c.in_ok-past.was c.formula.ensures)

pub formula-returns-then-left-eq0 : goal.formula-returns-then-left-eq0
formula-returns-then-left-eq0 t c = formula_none _ _ _ c.if-left-eq0.true c.at.ensures

pub formula-returns-in_err-tag : goal.formula-returns-in_err-tag
formula-returns-in_err-tag t c = on_error (formula_level _ _ _ c.if-left-eq0.false (enum_out _ _ _ c.tag.ensures c.in_err-tag.was)) (search rules)

pub formula-returns : goal.formula-returns
formula-returns t c = formula_level _ _ _ c.if-left-eq0.false (enum_on _ _ _ c.tag.ensures c.in_ok-tag.was c.formula_case.ensures)

pub formula_case-returns-in-0 : goal.formula_case-returns-in-0
unfolding formula_cases row pick
formula_case-returns-in-0 t c = arm (formula_cases (read_formula _) (read_expr _)) input_is _ _ _ 0 2 _ refl c.in-0.is (one_stands read_pattern _ _ _ c.one.ensures)

pub formula_case-returns-in-1 : goal.formula_case-returns-in-1
unfolding formula_cases row pick
formula_case-returns-in-1 t c = arm (formula_cases (read_formula _) (read_expr _)) output_has _ _ _ 1 2 _ refl c.in-1.is (one_stands read_pattern _ _ _ c.one-in-1.ensures)

pub formula_case-returns-in-2 : goal.formula_case-returns-in-2
unfolding formula_cases row pick
formula_case-returns-in-2 t c = arm (formula_cases (read_formula _) (read_expr _)) expr _ _ _ 2 2 _ refl c.in-2.is c.one_expr.ensures

pub formula_case-returns-in-3 : goal.formula_case-returns-in-3
unfolding formula_cases row pick
formula_case-returns-in-3 t c = arm (formula_cases (read_formula _) (read_expr _)) not _ _ _ 3 2 _ refl c.in-3.is c.one_formula.ensures

pub formula_case-returns-in-4 : goal.formula_case-returns-in-4
unfolding formula_cases row pick
formula_case-returns-in-4 t c = arm (formula_cases (read_formula _) (read_expr _)) (pair and) _ _ _ 4 3 _ refl c.in-4.is c.two_formulas.ensures

pub formula_case-returns-in-5 : goal.formula_case-returns-in-5
unfolding formula_cases row pick
formula_case-returns-in-5 t c = arm (formula_cases (read_formula _) (read_expr _)) (pair or) _ _ _ 5 3 _ refl c.in-5.is c.two_formulas-in-5.ensures

pub formula_case-returns-in-6 : goal.formula_case-returns-in-6
unfolding formula_cases row pick
formula_case-returns-in-6 t c = arm (formula_cases (read_formula _) (read_expr _)) (pair implies) _ _ _ 6 3 _ refl c.in-6.is c.two_formulas-in-6.ensures

pub formula_case-returns-in-7 : goal.formula_case-returns-in-7
unfolding formula_cases row pick
formula_case-returns-in-7 t c = arm (formula_cases (read_formula _) (read_expr _)) next _ _ _ 7 2 _ refl c.in-7.is c.one_formula-in-7.ensures

pub formula_case-returns-in-8 : goal.formula_case-returns-in-8
unfolding formula_cases row pick
formula_case-returns-in-8 t c = arm (formula_cases (read_formula _) (read_expr _)) always _ _ _ 8 2 _ refl c.in-8.is c.one_formula-in-8.ensures

pub formula_case-returns-in-9 : goal.formula_case-returns-in-9
unfolding formula_cases row pick
formula_case-returns-in-9 t c = arm (formula_cases (read_formula _) (read_expr _)) (pair bounded_always) _ _ _ 9 3 _ refl c.in-9.is c.bound_and_formula.ensures

pub formula_case-returns-in-10 : goal.formula_case-returns-in-10
unfolding formula_cases row pick
formula_case-returns-in-10 t c = arm (formula_cases (read_formula _) (read_expr _)) (pair bounded_eventually) _ _ _ 10 3 _ refl c.in-10.is c.bound_and_formula-in-10.ensures

pub formula_case-returns-in-11 : goal.formula_case-returns-in-11
unfolding formula_cases row pick
formula_case-returns-in-11 t c = arm (formula_cases (read_formula _) (read_expr _)) eventually _ _ _ 11 2 _ refl c.in-11.is c.one_formula-in-11.ensures

pub formula_case-returns-in-12 : goal.formula_case-returns-in-12
unfolding formula_cases row pick
formula_case-returns-in-12 t c = arm (formula_cases (read_formula _) (read_expr _)) (pair until) _ _ _ 12 3 _ refl c.in-12.is c.two_formulas-in-12.ensures

pub formula_case-returns-in-13-to-18446744073709551615 : goal.formula_case-returns-in-13-to-18446744073709551615
formula_case-returns-in-13-to-18446744073709551615 t c = formula_unknown _ _ _ _ _ (omega arith) c.at.ensures

pub one_formula-returns-in_err-sized : goal.one_formula-returns-in_err-sized
one_formula-returns-in_err-sized t c = on_error (sized_out _ _ _ _ (read_formula _) c.sized.ensures c.in_err-sized.was) (search rules)

pub one_formula-returns : goal.one_formula-returns
one_formula-returns t c = sized_on _ _ _ _ (read_formula _) c.sized.ensures c.in_ok-sized.was c.formula.ensures

pub two_formulas-returns-in_err-sized : goal.two_formulas-returns-in_err-sized
two_formulas-returns-in_err-sized t c = on_error (sized_out _ _ _ _ (read_formula _ then read_formula _) c.sized.ensures c.in_err-sized.was) (search rules)

pub two_formulas-returns-in_err-formula : goal.two_formulas-returns-in_err-formula
two_formulas-returns-in_err-formula t c = on_error (sized_on _ _ _ _ (read_formula _ then read_formula _) c.sized.ensures c.in_ok-sized.was (then_out _ _ _ _ c.formula.ensures c.in_err-formula.was)) (search rules)

pub two_formulas-returns : goal.two_formulas-returns
two_formulas-returns t c = sized_on _ _ _ _ (read_formula _ then read_formula _) c.sized.ensures c.in_ok-sized.was (then_on _ _ _ _ c.formula.ensures c.in_ok-formula.was c.formula-2.ensures)
