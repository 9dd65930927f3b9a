-- By where the head ends.
use Rattle.typing.proofs.TableLaws.{head_to, head_out}
use Rattle.typing.proofs.fill.after_head.Goals as goal

pub returns-in-Ok : goal.returns-in-Ok
returns-in-Ok c = search head_to

pub returns-in-Err : goal.returns-in-Err
returns-in-Err c = search head_out
