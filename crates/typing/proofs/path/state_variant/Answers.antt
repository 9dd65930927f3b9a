-- By what the search for State finds.
use Rattle.typing.proofs.PathLaws.{state_listed, state_unlisted}
use Rattle.typing.proofs.path.state_variant.Goals as goal

pub returns-in-Some : goal.returns-in-Some
returns-in-Some c = search state_listed

pub returns-in-None : goal.returns-in-None
returns-in-None c = search state_unlisted
