-- By the length that stands in the second byte, and the room that is left.
use Rattle.reading.proofs.Short.{byte_fits}
use Rattle.reading.proofs.Passes.{past_two, longer}
use Rattle.reading.proofs.cursor.Cursor.skip_string.Goals as goal

pub returns-then-room-eq0 : goal.returns-then-room-eq0
returns-then-room-eq0 c = search longer

pub overflow_cast-n : goal.overflow_cast-n
overflow_cast-n c = search byte_fits

pub returns-then-n-lt24 : goal.returns-then-n-lt24
returns-then-n-lt24 c = search longer

pub returns-then-room-n : goal.returns-then-room-n
returns-then-room-n c = search longer

pub returns : goal.returns
returns c = search past_two
