-- Each arm is the rule of its numbers.
use native.Mathlib.Omega.{arith}
use Rattle.typing.proofs.RuleLaws.{op_and_or, op_xor, op_bits, op_shift, op_compare, op_last}
use Rattle.typing.proofs.rules.binary_type.Goals as goal

pub returns-in-11 : goal.returns-in-11
returns-in-11 c = rw (op_and_or _ c.in-11.is) c.and_or_type.ensures

pub returns-in-12 : goal.returns-in-12
returns-in-12 c = rw (op_xor _ c.in-12.is) c.bit_op_type.ensures

pub returns-in-0-to-2 : goal.returns-in-0-to-2
returns-in-0-to-2 c = rw (op_bits c.args.op (omega arith)) c.bit_op_type-in-0-to-2.ensures

pub returns-in-3-to-4 : goal.returns-in-3-to-4
returns-in-3-to-4 c = rw (op_shift c.args.op (omega arith) (omega arith)) c.shift_type.ensures

pub returns-in-5-to-10 : goal.returns-in-5-to-10
returns-in-5-to-10 c = rw (op_compare c.args.op (omega arith) (omega arith)) c.compare_type.ensures

pub returns-in_default : goal.returns-in_default
returns-in_default c = rw (op_last c.args.op (omega arith) (omega arith) (omega arith)) c.logic_type.ensures
