-- By whether a list can stand at the place, and whether it was given a segment.
use Rattle.typing.proofs.SegmentLaws.{index_past, index_none, index_given}
use Rattle.typing.proofs.segments.index_enum.Goals as goal

pub returns-then-list-gt65535 : goal.returns-then-list-gt65535
returns-then-list-gt65535 c = search index_past

pub returns-then-r-eq0 : goal.returns-then-r-eq0
returns-then-r-eq0 c = search index_none

pub returns : goal.returns
returns c = search index_given
