-- By the number of names, then by the first.
use Rattle.typing.proofs.AcceptLaws.{segments_none, segments_few, segments_first}
use Rattle.typing.proofs.pattern.variant_of.Goals as goal

pub returns-in_default : goal.returns-in_default
returns-in_default c = search segments_none

pub returns-then-segments-lt2 : goal.returns-then-segments-lt2
returns-then-segments-lt2 c = search segments_few

pub returns : goal.returns
returns c = search segments_first
