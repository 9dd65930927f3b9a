-- By the room that is left.
use native.Mathlib.Omega.{arith}
use Rattle.reading.proofs.Skips.{body_short, body_room}
use Rattle.reading.proofs.cursor.Cursor.skip_body.Goals as goal

pub returns-then-room-more : goal.returns-then-room-more
returns-then-room-more c = body_short _ _ _ _ _ _ (omega arith) c.at.ensures

pub returns-then-room-more-2 : goal.returns-then-room-more-2
returns-then-room-more-2 c = body_short _ _ _ _ _ _ (omega arith) c.at-then-room-more-2.ensures

pub returns-then-room-more-3 : goal.returns-then-room-more-3
returns-then-room-more-3 c = body_short _ _ _ _ _ _ (omega arith) c.at-then-room-more-3.ensures

pub returns : goal.returns
returns c = body_room _ _ _ _ _ _ (omega arith)
