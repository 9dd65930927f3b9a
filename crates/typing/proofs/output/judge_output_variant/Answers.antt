-- By the two counts.
use Rattle.typing.proofs.EmitLaws.{count_differs, count_same}
use Rattle.typing.proofs.output.judge_output_variant.Goals as goal

pub returns-then-m-n : goal.returns-then-m-n
returns-then-m-n c = search count_differs

pub returns : goal.returns
returns c = search count_same
