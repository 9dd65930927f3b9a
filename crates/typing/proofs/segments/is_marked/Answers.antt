use Rattle.typing.proofs.Counts.{all_left, some_left, none_left, fewer_left}
use mathlib.Core.Path.{refl}
use Rattle.typing.proofs.SegmentLaws.{marks_none, marks_hit, marks_miss}
use Rattle.typing.proofs.segments.is_marked.Goals as goal

pub loop-init : goal.loop-init
loop-init c = rw (all_left _) (refl)

pub returns-then-rest-m : goal.returns-then-rest-m
returns-then-rest-m c = search (marks_hit, some_left)

pub loop-preserved : goal.loop-preserved
loop-preserved c = rw (fewer_left _ _) (search (marks_miss, some_left))

pub returns : goal.returns
returns c = search (marks_none, none_left)
