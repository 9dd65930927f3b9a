-- The upper bits of the print by the key's factor, spread.
use Rattle.typing.proofs.SegmentLaws.{mark_is}
use Rattle.typing.proofs.segments.mark_of.Goals as goal

pub returns-clause-value : goal.returns-clause-value
returns-clause-value c = search mark_is
