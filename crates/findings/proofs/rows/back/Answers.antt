use mathlib.Core.Path.{refl, ◌∙◌}
use Rattle.std.proofs.lemmas.List.{drop_min}
use Rattle.findings.proofs.GroupTables.{back_some}
use Rattle.findings.proofs.rows.back.Goals as goal

pub returns : goal.returns
returns c = back_some c.args.table.now c.min.result refl ∙ rw c.min.ensures (drop_min c.args.from c.args.table.now)
