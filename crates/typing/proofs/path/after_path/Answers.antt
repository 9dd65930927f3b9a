-- By its first byte.
use Rattle.typing.proofs.PathLaws.{path_ends, name_ends, names_end}
use Rattle.typing.proofs.path.after_path.Goals as goal

pub returns-then-head : goal.returns-then-head
returns-then-head c = search name_ends

pub returns-then-head-2 : goal.returns-then-head-2
returns-then-head-2 c = search names_end

pub returns : goal.returns
returns c = search path_ends
