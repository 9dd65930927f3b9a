-- By the views of both.
use Rattle.typing.proofs.RuleLaws.{literal_bool}
use Rattle.typing.proofs.rules.literal_as_bool.Goals as goal

pub returns : goal.returns
returns c = search literal_bool
