use Rattle.std.specs.Prelude.{◌≡◌, Err}
use native.Mathlib.Omega.{arith}
use borrow.Author.Rules.{rules}
use Rattle.typing.proofs.TypeLaws.{too_deep, no_tag, arm_int, arm_bool, arm_path, arm_unary, arm_binary, arm_beyond, unary_none, unary_out, unary_goes, unary_not, binary_none, left_out, right_out, binary_goes}
use Rattle.typing.proofs.QuickLaws.{quick_bool, quick_bits}
use Rattle.typing.proofs.expr.+type_binary_type_expr_type_unary.Goals as goal

pub type_binary-returns-in_default : goal.type_binary-returns-in_default
type_binary-returns-in_default t c = search binary_none

pub type_binary-returns-in_default-l : goal.type_binary-returns-in_default-l
type_binary-returns-in_default-l t c = search left_out

pub type_binary-returns-in_default-r : goal.type_binary-returns-in_default-r
type_binary-returns-in_default-r t c = search right_out

pub type_binary-returns-then-q-eq0 : goal.type_binary-returns-then-q-eq0
type_binary-returns-then-q-eq0 t c = search (binary_goes, quick_bool)

pub type_binary-overflow_cast-result : goal.type_binary-overflow_cast-result
type_binary-overflow_cast-result t c = omega (arith, c.quick_type-q.ensures.few (search rules))

pub type_binary-returns-then-q-gt2 : goal.type_binary-returns-then-q-gt2
type_binary-returns-then-q-gt2 t c = search (binary_goes, quick_bits)

pub type_binary-returns : goal.type_binary-returns
type_binary-returns t c = search binary_goes

pub type_expr-returns-then-depth-eq0 : goal.type_expr-returns-then-depth-eq0
type_expr-returns-then-depth-eq0 t c = search too_deep

pub type_expr-returns-in_default : goal.type_expr-returns-in_default
type_expr-returns-in_default t c = search no_tag

pub type_expr-returns-in-0 : goal.type_expr-returns-in-0
type_expr-returns-in-0 t c = search arm_int

pub type_expr-returns-in-1 : goal.type_expr-returns-in-1
type_expr-returns-in-1 t c = search arm_bool

pub type_expr-returns-in-2 : goal.type_expr-returns-in-2
type_expr-returns-in-2 t c = search arm_path

pub type_expr-returns-in-3 : goal.type_expr-returns-in-3
type_expr-returns-in-3 t c = search arm_unary

pub type_expr-returns-in-4 : goal.type_expr-returns-in-4
type_expr-returns-in-4 t c = search arm_binary

pub type_expr-returns-in-5-to-18446744073709551615 : goal.type_expr-returns-in-5-to-18446744073709551615
type_expr-returns-in-5-to-18446744073709551615 t c = arm_beyond _ _ _ _ c.if-depth-eq0.false c.tag-t.ensures c.in-Ok.is _ (omega arith) (omega arith) (omega arith) (omega arith) (omega arith)

pub type_unary-returns-in_default : goal.type_unary-returns-in_default
type_unary-returns-in_default t c = search unary_none

pub type_unary-returns-in_default-t : goal.type_unary-returns-in_default-t
type_unary-returns-in_default-t t c = search unary_out

pub type_unary-returns-then-is_bool : goal.type_unary-returns-then-is_bool
type_unary-returns-then-is_bool t c = search unary_not

pub type_unary-returns : goal.type_unary-returns
type_unary-returns t c = search unary_goes
