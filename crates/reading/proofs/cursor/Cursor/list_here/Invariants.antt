-- What is due of the entries from here decides, as all of them do from the first.
use Rattle.std.proofs.Common.{◌≡◌, ◌-◌}
use Rattle.reading.specs.Link.{entries_end}
use Rattle.reading.proofs.cursor.Cursor.list_here.Given as goal

abbrev pub invariant-loop : goal.invariant-loop
invariant-loop g l = entries_end (l.count - l.counter) g.I.Item.ends l.doc l.c.at ≡ entries_end l.count g.I.Item.ends l.doc l.initial.c.at
