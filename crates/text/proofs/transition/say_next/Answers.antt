-- The next state stands where the row says.
use Rattle.text.proofs.TransitionLaws.{next_said_lem}
use Rattle.text.proofs.transition.say_next.Goals as goal

pub returns : goal.returns
returns c = search next_said_lem
