-- By whether there is a type.
use Rattle.text.proofs.BlameLaws.{typed_blame, failed_blame}
use Rattle.text.proofs.blame.untyped.Goals as goal

pub returns-in-Ok : goal.returns-in-Ok
returns-in-Ok c = search typed_blame

pub returns-in-Err : goal.returns-in-Err
returns-in-Err c = search failed_blame
