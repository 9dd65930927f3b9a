use Rattle.typing.proofs.Counts.{all_left, some_left, none_left, fewer_left}
use Rattle.typing.proofs.SegmentLaws.{word_start, named_none, named_hit, named_miss, named_other}
use Rattle.typing.proofs.segments.in_word.Goals as goal
use Rattle.typing.proofs.segments.in_word.Goals.{then-rest-m+else-same, else-rest-m}

pub loop-init : goal.loop-init
loop-init c = rw (all_left _) (search word_start)

pub returns-then-same : goal.returns-then-same
returns-then-same c = search (named_hit, some_left)

pub loop-preserved : goal.loop-preserved
loop-preserved c = rw (fewer_left _ _) (elim c.if-rest-m.branch [ then-rest-m+else-same w ↦ search (named_miss, some_left) | else-rest-m w ↦ search (named_other, some_left) ])

pub returns : goal.returns
returns c = search (named_none, none_left)
