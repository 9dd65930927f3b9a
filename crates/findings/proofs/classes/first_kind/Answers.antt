use Rattle.findings.proofs.ClassLaws.{passed_start, passed_all}
use Rattle.findings.proofs.FirstLaws.{kind_skip, kind_other, kind_found}
use Rattle.findings.proofs.classes.first_kind.Goals as goal
use Rattle.findings.proofs.classes.first_kind.Goals.{else-prints-k-via-then-prints-k+else-same_kind, else-prints-k-via-else-prints-k}

pub loop-j-init : goal.loop-j-init
loop-j-init c = search passed_start

pub returns-then-same_kind : goal.returns-then-same_kind
returns-then-same_kind c = search kind_found

pub loop-j-preserved : goal.loop-j-preserved
loop-j-preserved c = elim c.else-prints-k.branch [
  | else-prints-k-via-then-prints-k+else-same_kind w ↦ search kind_other
  | else-prints-k-via-else-prints-k w ↦ search kind_skip
]

pub returns : goal.returns
returns c = search passed_all
