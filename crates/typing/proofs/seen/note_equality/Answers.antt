-- By what the table has under its name.
use Rattle.typing.proofs.SeenLaws.{note_nothing, note_same, note_clash, note_new, note_full}
use Rattle.typing.proofs.seen.note_equality.Goals as goal

pub returns-in_default : goal.returns-in_default
returns-in_default c = search note_nothing

pub returns-then-earlier-later : goal.returns-then-earlier-later
returns-then-earlier-later c = search note_same

pub returns-then-k-lt4096 : goal.returns-then-k-lt4096
returns-then-k-lt4096 c = search note_new

pub returns-else-earlier-later : goal.returns-else-earlier-later
returns-else-earlier-later c = search note_clash

pub returns-else-k-lt4096 : goal.returns-else-k-lt4096
returns-else-k-lt4096 c = search note_full
