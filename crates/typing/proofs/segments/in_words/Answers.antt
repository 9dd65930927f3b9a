use native.Mathlib.Omega.{arith}
use Rattle.typing.proofs.SegmentLaws.{among_none, among_hit, among_miss, among_unmarked}
use Rattle.typing.proofs.segments.in_words.Goals as goal

pub returns-then-in_word : goal.returns-then-in_word
returns-then-in_word c = search among_hit

pub loop-i-preserved-else-in_word : goal.loop-i-preserved-else-in_word
loop-i-preserved-else-in_word c = (omega arith, search among_miss)

pub loop-i-preserved : goal.loop-i-preserved
loop-i-preserved c = (omega arith, search among_unmarked)

pub returns : goal.returns
returns c = search among_none
