-- A segment that ends in the table has the names of its words.
use Rattle.typing.proofs.SegmentLaws.{segment_out, segment_wide, segment_has_lem}
use Rattle.typing.proofs.segments.in_segment.Goals as goal

pub returns-then-len-q : goal.returns-then-len-q
returns-then-len-q c = search segment_out

pub returns-then-len-q-2 : goal.returns-then-len-q-2
returns-then-len-q-2 c = search segment_wide

pub returns : goal.returns
returns c = search segment_has_lem
