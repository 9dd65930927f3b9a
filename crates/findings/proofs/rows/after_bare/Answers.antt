-- By the name and what follows it.
use Rattle.findings.proofs.MoveLaws.{bare_is}
use Rattle.findings.proofs.rows.after_bare.Goals as goal

pub returns : goal.returns
returns c = search bare_is
