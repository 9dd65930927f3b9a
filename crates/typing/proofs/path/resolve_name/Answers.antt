-- The word first, then what the search finds.
use Rattle.typing.proofs.PathLaws.{name_state, name_found_lem, name_other}
use Rattle.typing.proofs.path.resolve_name.Goals as goal

pub returns-then-same : goal.returns-then-same
returns-then-same c = search name_state

pub returns-in-Some : goal.returns-in-Some
returns-in-Some c = search name_found_lem

pub returns-in-None : goal.returns-in-None
returns-in-None c = search name_other
