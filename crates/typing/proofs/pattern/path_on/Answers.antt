-- By the enum that is declared.
use Rattle.typing.proofs.AcceptLaws.{path_non_enum, path_fine, path_other}
use Rattle.typing.proofs.pattern.path_on.Goals as goal

pub returns-in_default : goal.returns-in_default
returns-in_default c = search path_non_enum

pub returns-then-variant_of : goal.returns-then-variant_of
returns-then-variant_of c = search path_fine

pub returns : goal.returns
returns c = search path_other
