use Prim.Native.Nat.{◌≤◌}
use native.Mathlib.Omega.{arith}
use Rattle.findings.proofs.TouchLaws.{expr_deep, expr_no_tag, arm_literal, arm_path, arm_unary, arm_binary, arm_beyond, unary_none, unary_goes, binary_none, binary_goes}
use Rattle.findings.proofs.touch.+touch_binary_touch_expr_touch_unary.Goals as goal

pub touch_binary-returns-in_default : goal.touch_binary-returns-in_default
touch_binary-returns-in_default t c = search binary_none

pub touch_binary-returns : goal.touch_binary-returns
touch_binary-returns t c = search binary_goes

pub touch_expr-returns-then-depth-eq0 : goal.touch_expr-returns-then-depth-eq0
touch_expr-returns-then-depth-eq0 t c = search expr_deep

pub touch_expr-returns-in_default : goal.touch_expr-returns-in_default
touch_expr-returns-in_default t c = search expr_no_tag

pub touch_expr-returns-in-0 : goal.touch_expr-returns-in-0
touch_expr-returns-in-0 t c = let k : c.in-Ok.tag.case ≤ 1 = omega arith in search arm_literal

pub touch_expr-returns-in-2 : goal.touch_expr-returns-in-2
touch_expr-returns-in-2 t c = search arm_path

pub touch_expr-returns-in-3 : goal.touch_expr-returns-in-3
touch_expr-returns-in-3 t c = search arm_unary

pub touch_expr-returns-in-4 : goal.touch_expr-returns-in-4
touch_expr-returns-in-4 t c = search arm_binary

pub touch_expr-returns-in_default-case : goal.touch_expr-returns-in_default-case
touch_expr-returns-in_default-case t c = let k : 5 ≤ c.in-Ok.tag.case = omega arith in search arm_beyond

pub touch_unary-returns-in_default : goal.touch_unary-returns-in_default
touch_unary-returns-in_default t c = search unary_none

pub touch_unary-returns : goal.touch_unary-returns
touch_unary-returns t c = search unary_goes
