use Rattle.std.specs.Prelude.{◌≡◌, Err}
use borrow.Author.Rules.{rules}
use Rattle.typing.proofs.Counts.{all_left, some_left, none_left, fewer_left}
use Rattle.typing.proofs.EmitLaws.{args_start, args_hit, args_untyped, args_miss, args_done}
use Rattle.typing.proofs.args.judge_args.Goals as goal

pub loop-init : goal.loop-init
loop-init c = rw (all_left _) (search args_start)

pub returns-in_err-judge_arg : goal.returns-in_err-judge_arg
returns-in_err-judge_arg c = let e : c.from_residual.result ≡ Err c.in_err-judge_arg.field-0.0 = search rules in search (args_hit, some_left, c.in_err-judge_arg.was)

pub returns-in_default : goal.returns-in_default
returns-in_default c = search (args_untyped, some_left, c.in_ok-judge_arg.was)

pub loop-preserved : goal.loop-preserved
loop-preserved c = rw (fewer_left _ _) (search (args_miss, some_left, c.in_ok-judge_arg.was))

pub returns : goal.returns
returns c = search (args_done, none_left)
