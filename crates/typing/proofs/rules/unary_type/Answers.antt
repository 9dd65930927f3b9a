-- Each arm is the rule of its number.
use native.Mathlib.Omega.{arith}
use Rattle.typing.proofs.RuleLaws.{not_bool, not_other, unary_bit_not, unary_negation}
use Rattle.typing.proofs.rules.unary_type.Goals as goal

pub returns-then-is_bool : goal.returns-then-is_bool
returns-then-is_bool c = search not_bool

pub returns-else-is_bool : goal.returns-else-is_bool
returns-else-is_bool c = search not_other

pub returns-in-1 : goal.returns-in-1
returns-in-1 c = search unary_bit_not

pub returns-in_default : goal.returns-in_default
returns-in_default c = unary_negation _ _ _ _ _ (omega arith) (omega arith) c.negated-in_default.ensures
