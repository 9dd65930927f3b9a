-- The state stands where the row says.
use Rattle.text.proofs.TransitionLaws.{state_said_lem}
use Rattle.text.proofs.transition.say_state.Goals as goal

pub returns : goal.returns
returns c = search state_said_lem
