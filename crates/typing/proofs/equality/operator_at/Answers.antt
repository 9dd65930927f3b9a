-- By the operator.
use Rattle.typing.proofs.EqualityLaws.{operator_none, operator_and, operator_equal, operator_other}
use Rattle.typing.proofs.equality.operator_at.Goals as goal

pub returns-in_default : goal.returns-in_default
returns-in_default c = search operator_none

pub returns-then-op-eq15 : goal.returns-then-op-eq15
returns-then-op-eq15 c = search operator_and

pub returns-then-op-eq5 : goal.returns-then-op-eq5
returns-then-op-eq5 c = search operator_equal

pub returns : goal.returns
returns c = search operator_other
