use Rattle.findings.proofs.RivalLaws.{pairs_start, pairs_skip, pairs_more, pairs_found, pairs_none}
use Rattle.findings.proofs.pairs.no_pairs.Goals as goal
use Rattle.findings.proofs.pairs.no_pairs.Goals.{else-seen-w-ne0-via-then-seen-w-ne0+else-has_rival, else-seen-w-ne0-via-else-seen-w-ne0}

pub loop-i-init : goal.loop-i-init
loop-i-init c = search pairs_start

pub returns-then-has_rival : goal.returns-then-has_rival
returns-then-has_rival c = search pairs_found

pub loop-i-preserved : goal.loop-i-preserved
loop-i-preserved c = elim c.else-seen-w-ne0.branch [
  | else-seen-w-ne0-via-then-seen-w-ne0+else-has_rival w ↦ search pairs_more
  | else-seen-w-ne0-via-else-seen-w-ne0 w ↦ search pairs_skip
]

pub returns : goal.returns
returns c = search pairs_none
