-- A head of one byte, or any.
use Rattle.reading.proofs.Skips.{span_one}
use Rattle.reading.proofs.walk.text_at.Goals as goal

pub returns-then-n-len : goal.returns-then-n-len
returns-then-n-len c = search span_one
