use Rattle.typing.proofs.SegmentLaws.{index_start, index_long, index_more, index_done}
use Rattle.typing.proofs.segments.index_enums.Goals as goal

pub returns-then-doc-gt65535 : goal.returns-then-doc-gt65535
returns-then-doc-gt65535 c = search index_long

pub loop-i-init : goal.loop-i-init
loop-i-init c = search index_start

pub loop-i-preserved : goal.loop-i-preserved
loop-i-preserved c = search index_more

pub returns : goal.returns
returns c = search index_done
