-- By the word: a place, or a segment.
use Rattle.typing.proofs.SegmentLaws.{by_place, by_length, by_segment}
use Rattle.typing.proofs.segments.has_variant.Goals as goal

pub returns-then-w-lt65536 : goal.returns-then-w-lt65536
returns-then-w-lt65536 c = search by_place

pub returns-then-doc-gt65535 : goal.returns-then-doc-gt65535
returns-then-doc-gt65535 c = search by_length

pub returns : goal.returns
returns c = search by_segment
