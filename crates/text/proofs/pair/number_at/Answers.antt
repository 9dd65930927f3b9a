-- By what is read.
use Rattle.text.proofs.LineLaws.{number_got, number_none}
use Rattle.text.proofs.pair.number_at.Goals as goal

pub returns-in-Ok : goal.returns-in-Ok
returns-in-Ok c = search number_got

pub returns-in-Err : goal.returns-in-Err
returns-in-Err c = search number_none
