-- By the ranges of a head's byte, and the room that is left.
use borrow.Author.Rules.{rules}
use Rattle.reading.proofs.Passes.{past_number, past_array, past_simple, past_string, longer}
use Rattle.reading.proofs.cursor.Cursor.skip_short.Goals as goal

pub returns-then-b-lt24 : goal.returns-then-b-lt24
returns-then-b-lt24 c = search past_number

pub returns-then-n-room : goal.returns-then-n-room
returns-then-n-room c = search past_array

pub returns-then-b-lt152 : goal.returns-then-b-lt152
returns-then-b-lt152 c = search longer

pub returns-then-b-le246 : goal.returns-then-b-le246
returns-then-b-le246 c = search past_simple

pub returns-else-b-le246 : goal.returns-else-b-le246
returns-else-b-le246 c = search longer

pub returns-else-b-ge244 : goal.returns-else-b-ge244
returns-else-b-ge244 c = search longer

pub returns-then-n-room-2 : goal.returns-then-n-room-2
returns-then-n-room-2 c = search past_string

pub returns-then-b-lt120 : goal.returns-then-b-lt120
returns-then-b-lt120 c = search longer

pub skip_string-requires-clause-more_in_bounds : goal.skip_string-requires-clause-more_in_bounds
skip_string-requires-clause-more_in_bounds c = search rules

pub skip_string-requires-clause-at_value : goal.skip_string-requires-clause-at_value
skip_string-requires-clause-at_value c = search rules

pub returns-else-b-eq120 : goal.returns-else-b-eq120
returns-else-b-eq120 c = search longer

pub returns-else-b-ge96 : goal.returns-else-b-ge96
returns-else-b-ge96 c = search longer
