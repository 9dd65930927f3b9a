-- By what the test says.
use Rattle.typing.proofs.PathLaws.{state_is, state_unknown}
use Rattle.typing.proofs.path.resolve_state.Goals as goal

pub returns-then-state_variant : goal.returns-then-state_variant
returns-then-state_variant c = search state_is

pub returns : goal.returns
returns c = search state_unknown
