-- By the variant that is found.
use Rattle.typing.proofs.EmitLaws.{variant_unknown, variant_known}
use Rattle.typing.proofs.output.judge_output_name.Goals as goal

pub returns-in_default : goal.returns-in_default
returns-in_default c = search variant_unknown

pub returns : goal.returns
returns c = search variant_known
