use Rattle.std.specs.Prelude.{◌≡◌, Err}
use borrow.Author.Rules.{rules}
use Rattle.typing.proofs.SeenLaws.{notes_deep, notes_and, notes_one, kept_room, notes_left, notes_stop}
use Rattle.typing.proofs.seen.+note_conjuncts_note_two.Goals as goal

pub note_conjuncts-returns-then-depth-eq0 : goal.note_conjuncts-returns-then-depth-eq0
note_conjuncts-returns-then-depth-eq0 t c = search notes_deep

pub note_conjuncts-returns-in-And : goal.note_conjuncts-returns-in-And
note_conjuncts-returns-in-And t c = search notes_and

pub note_conjuncts-returns-in-One : goal.note_conjuncts-returns-in-One
note_conjuncts-returns-in-One t c = search notes_one

pub note_two-note_conjuncts-requires-2 : goal.note_two-note_conjuncts-requires-2
note_two-note_conjuncts-requires-2 t c = (search rules, kept_room c.note_conjuncts.ensures c.in_ok-m.was)

pub note_two-returns-in_err-m : goal.note_two-returns-in_err-m
note_two-returns-in_err-m t c = let e : c.from_residual.result ≡ Err c.in_err-m.field-0.0 = search rules in search (notes_stop, c.in_err-m.was)

pub note_two-returns : goal.note_two-returns
note_two-returns t c = search (notes_left, c.in_ok-m.was)
