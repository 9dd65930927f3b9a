-- The id stands where the row says.
use Rattle.text.proofs.PairLaws.{id_said_lem}
use Rattle.text.proofs.pair.say_id.Goals as goal

pub returns : goal.returns
returns c = search id_said_lem
