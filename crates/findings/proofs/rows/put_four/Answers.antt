-- Word by word.
use Rattle.findings.proofs.MoveLaws.{four_put}
use Rattle.findings.proofs.rows.put_four.Goals as goal

pub returns : goal.returns
returns c = search four_put
