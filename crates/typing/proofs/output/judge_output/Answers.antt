-- By the variant's name.
use Rattle.typing.proofs.EmitLaws.{output_bare, output_named}
use Rattle.typing.proofs.output.judge_output.Goals as goal

pub returns-in_default : goal.returns-in_default
returns-in_default c = search output_bare

pub returns : goal.returns
returns c = search output_named
