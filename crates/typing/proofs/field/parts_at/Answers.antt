-- By where the head ends.
use borrow.Author.Rules.{rules}
use Rattle.typing.proofs.PartLaws.{past_at}
use Rattle.typing.proofs.field.parts_at.Goals as goal

pub returns : goal.returns
returns c = record { name = search rules; under = search past_at }
