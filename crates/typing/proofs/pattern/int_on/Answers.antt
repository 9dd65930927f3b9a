-- By the type's case.
use Rattle.typing.proofs.AcceptLaws.{int_none, int_bool, int_fits, int_wide, int_literal, int_state, int_enum}
use Rattle.typing.proofs.pattern.int_on.Goals as goal

pub returns-in_default : goal.returns-in_default
returns-in_default c = search int_none

pub returns-then-fits : goal.returns-then-fits
returns-then-fits c = search int_fits

pub returns-in-Bool : goal.returns-in-Bool
returns-in-Bool c = search int_bool

pub returns-else-fits : goal.returns-else-fits
returns-else-fits c = search int_wide

pub returns-in-IntLit : goal.returns-in-IntLit
returns-in-IntLit c = search int_literal

pub returns-in-State : goal.returns-in-State
returns-in-State c = search int_state

pub returns-in-Enum : goal.returns-in-Enum
returns-in-Enum c = search int_enum
