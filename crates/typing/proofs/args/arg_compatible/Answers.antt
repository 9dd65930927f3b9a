-- It is typed, and judged.
use Rattle.typing.proofs.ArgLaws.{arg_accepts}
use Rattle.typing.proofs.args.arg_compatible.Goals as goal

pub returns : goal.returns
returns c = search arg_accepts
