-- By the string's head, and the room that is left.
use Rattle.reading.proofs.Skips.{span_refused, span_from, span_short, span_end, span_whole}
use Rattle.reading.proofs.walk.whole_text_at.Goals as goal

pub returns-in_default : goal.returns-in_default
returns-in_default c = search span_refused

pub overflow_sub-doc : goal.overflow_sub-doc
overflow_sub-doc c = search span_from

pub returns-then-doc-from : goal.returns-then-doc-from
returns-then-doc-from c = search span_short

pub slice_bounds-result-end-2 : goal.slice_bounds-result-end-2
slice_bounds-result-end-2 c = search span_end

pub returns : goal.returns
returns c = search span_whole
