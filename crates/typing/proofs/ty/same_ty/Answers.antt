-- `state` and an enum of that name have one type.
use Rattle.typing.proofs.RuleLaws.{same_states, same_state, same_declared}
use Rattle.typing.proofs.ty.same_ty.Goals as goal

pub returns-in-Bool-Bool-3 : goal.returns-in-Bool-Bool-3
returns-in-Bool-Bool-3 c = search same_states

pub returns-in-State-Enum : goal.returns-in-State-Enum
returns-in-State-Enum c = search same_state

pub returns-in-Enum-State : goal.returns-in-Enum-State
returns-in-Enum-State c = search same_declared
