-- By how many there are.
use Rattle.typing.proofs.EmitLaws.{only_not, only_one}
use Rattle.typing.proofs.output.only_variant.Goals as goal

pub returns-then-e-ne1 : goal.returns-then-e-ne1
returns-then-e-ne1 c = search only_not

pub returns : goal.returns
returns c = search only_one
