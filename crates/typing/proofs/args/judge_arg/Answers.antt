-- By whether it fits.
use Rattle.typing.proofs.EmitLaws.{arg_fine, arg_unfit}
use Rattle.typing.proofs.args.judge_arg.Goals as goal

pub returns-in-Ok : goal.returns-in-Ok
returns-in-Ok c = search arg_fine

pub returns-in-Err : goal.returns-in-Err
returns-in-Err c = search arg_unfit
