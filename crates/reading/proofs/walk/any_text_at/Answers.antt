-- A head of two bytes, or any.
use Rattle.reading.proofs.Short.{byte_fits}
use Rattle.reading.proofs.Skips.{span_two}
use Rattle.reading.proofs.walk.any_text_at.Goals as goal

pub overflow_cast-n : goal.overflow_cast-n
overflow_cast-n c = search byte_fits

pub returns-then-n-len : goal.returns-then-n-len
returns-then-n-len c = search span_two
