-- By the levels left; each arm is the row of its number.
use Rattle.std.proofs.Common.{rules}
use mathlib.Core.Path.{refl, sym, ◌∙◌}
use native.Mathlib.Omega.{arith}
use Rattle.reading.specs.Read.{pick}
use Rattle.reading.specs.Limits.{max_u64}
use Rattle.reading.specs.Item.{read_number, read_case, read_bool}
use Rattle.reading.specs.Combine.{◌then◌, row, pair, triple}
use Rattle.reading.specs.Expr.{int, bool, path, unary, binary, unary_ops, bin_ops, read_path, read_expr, expr_cases}
use Rattle.reading.proofs.Threads.{on_error, past_out, past_on, enum_out, enum_on, sized_out, sized_on, then_out, then_on, one_stands}
use Rattle.reading.proofs.Levels.{expr_none, expr_level}
use Rattle.reading.proofs.Arms.{arm, expr_unknown}
use Rattle.reading.proofs.cursor.Cursor.+expr_case_expr.Goals as goal

pub expr-returns-then-left-eq0 : goal.expr-returns-then-left-eq0
expr-returns-then-left-eq0 t c = expr_none _ _ _ c.if-left-eq0.true c.at.ensures

pub expr-returns-in_err-tag : goal.expr-returns-in_err-tag
expr-returns-in_err-tag t c = on_error (expr_level _ _ _ c.if-left-eq0.false (enum_out _ _ _ c.tag.ensures c.in_err-tag.was)) (search rules)

pub expr-returns-in_err-end : goal.expr-returns-in_err-end
expr-returns-in_err-end t c = on_error (expr_level _ _ _ c.if-left-eq0.false (enum_on _ _ _ c.tag.ensures c.in_ok-tag.was (sym c.in_err-end.was ∙ c.expr_case.ensures))) (search rules)

pub expr-returns : goal.expr-returns
expr-returns t c = expr_level _ _ _ c.if-left-eq0.false (enum_on _ _ _ c.tag.ensures c.in_ok-tag.was (sym c.in_ok-end.was ∙ c.expr_case.ensures))

pub expr_case-returns-in-0 : goal.expr_case-returns-in-0
unfolding expr_cases row pick
expr_case-returns-in-0 t c = arm (expr_cases (read_expr _)) int _ _ _ 0 2 _ refl c.in-0.is (one_stands (read_number max_u64) _ _ _ c.one.ensures)

pub expr_case-returns-in-1 : goal.expr_case-returns-in-1
unfolding expr_cases row pick
expr_case-returns-in-1 t c = arm (expr_cases (read_expr _)) bool _ _ _ 1 2 _ refl c.in-1.is (one_stands read_bool _ _ _ c.one-in-1.ensures)

pub expr_case-returns-in-2 : goal.expr_case-returns-in-2
unfolding expr_cases row pick
expr_case-returns-in-2 t c = arm (expr_cases (read_expr _)) path _ _ _ 2 2 _ refl c.in-2.is (one_stands read_path _ _ _ c.one-in-2.ensures)

pub expr_case-returns-in_err-sized-in-3 : goal.expr_case-returns-in_err-sized-in-3
unfolding expr_cases row pick
expr_case-returns-in_err-sized-in-3 t c = on_error (arm (expr_cases (read_expr _)) (pair unary) _ _ _ 3 3 _ refl c.in-3.is (sized_out _ _ _ _ (read_case unary_ops then read_expr _) c.sized.ensures c.in_err-sized-in-3.was)) (search rules)

pub expr_case-returns-in_err-operand-in-3 : goal.expr_case-returns-in_err-operand-in-3
unfolding expr_cases row pick
expr_case-returns-in_err-operand-in-3 t c = on_error (arm (expr_cases (read_expr _)) (pair unary) _ _ _ 3 3 _ refl c.in-3.is (sized_on _ _ _ _ (read_case unary_ops then read_expr _) c.sized.ensures c.in_ok-sized-in-3.was (then_out _ _ _ _ (past_out _ c.case_number.ensures c.in_err-operand-in-3.was) refl))) (search rules)

pub expr_case-returns-in_ok-operand-in-3 : goal.expr_case-returns-in_ok-operand-in-3
unfolding expr_cases row pick
expr_case-returns-in_ok-operand-in-3 t c = arm (expr_cases (read_expr _)) (pair unary) _ _ _ 3 3 _ refl c.in-3.is (sized_on _ _ _ _ (read_case unary_ops then read_expr _) c.sized.ensures c.in_ok-sized-in-3.was (then_on _ _ _ _ (past_on _ c.case_number.ensures c.in_ok-operand-in-3.was) refl c.expr.ensures))

pub expr_case-returns-in_err-sized-in-4 : goal.expr_case-returns-in_err-sized-in-4
unfolding expr_cases row pick
expr_case-returns-in_err-sized-in-4 t c = on_error (arm (expr_cases (read_expr _)) (triple binary) _ _ _ 4 4 _ refl c.in-4.is (sized_out _ _ _ _ (read_case bin_ops then read_expr _ then read_expr _) c.sized-in-4.ensures c.in_err-sized-in-4.was)) (search rules)

pub expr_case-returns-in_err-first-in-4 : goal.expr_case-returns-in_err-first-in-4
unfolding expr_cases row pick
expr_case-returns-in_err-first-in-4 t c = on_error (arm (expr_cases (read_expr _)) (triple binary) _ _ _ 4 4 _ refl c.in-4.is (sized_on _ _ _ _ (read_case bin_ops then read_expr _ then read_expr _) c.sized-in-4.ensures c.in_ok-sized-in-4.was (then_out _ _ _ _ (past_out _ c.case_number-in-4.ensures c.in_err-first-in-4.was) refl))) (search rules)

pub expr_case-returns-in_err-expr-in-4 : goal.expr_case-returns-in_err-expr-in-4
unfolding expr_cases row pick
expr_case-returns-in_err-expr-in-4 t c = on_error (arm (expr_cases (read_expr _)) (triple binary) _ _ _ 4 4 _ refl c.in-4.is (sized_on _ _ _ _ (read_case bin_ops then read_expr _ then read_expr _) c.sized-in-4.ensures c.in_ok-sized-in-4.was (then_on _ _ _ _ (past_on _ c.case_number-in-4.ensures c.in_ok-first-in-4.was) refl (then_out _ _ _ _ c.expr-in-4.ensures c.in_err-expr-in-4.was)))) (search rules)

pub expr_case-returns-in_ok-expr-in-4 : goal.expr_case-returns-in_ok-expr-in-4
unfolding expr_cases row pick
expr_case-returns-in_ok-expr-in-4 t c = arm (expr_cases (read_expr _)) (triple binary) _ _ _ 4 4 _ refl c.in-4.is (sized_on _ _ _ _ (read_case bin_ops then read_expr _ then read_expr _) c.sized-in-4.ensures c.in_ok-sized-in-4.was (then_on _ _ _ _ (past_on _ c.case_number-in-4.ensures c.in_ok-first-in-4.was) refl (then_on _ _ _ _ c.expr-in-4.ensures c.in_ok-expr-in-4.was c.expr-in-4-2.ensures)))

pub expr_case-returns-in-5-to-18446744073709551615 : goal.expr_case-returns-in-5-to-18446744073709551615
expr_case-returns-in-5-to-18446744073709551615 t c = expr_unknown _ _ _ _ (omega arith) c.at.ensures
