use Rattle.std.proofs.lemmas.List.{take_min}
use Rattle.findings.proofs.rows.front.Goals as goal

pub returns : goal.returns
returns c = rw c.min.ensures (take_min c.args.words c.args.table.now)
