-- By the group that is found.
use Rattle.typing.proofs.EmitLaws.{output_unknown, output_known}
use Rattle.typing.proofs.OutputLaws.{within_at}
use native.Mathlib.Omega.{arith}
use Rattle.typing.proofs.output.validate_output_expr.Goals as goal

pub returns-in_default : goal.returns-in_default
returns-in_default c = search output_unknown

pub judge_output-requires : goal.judge_output-requires
judge_output-requires c = let l = within_at _ _ c.in-Some.is c.roll_find-f.ensures.within_table in omega arith

pub returns : goal.returns
returns c = search output_known
