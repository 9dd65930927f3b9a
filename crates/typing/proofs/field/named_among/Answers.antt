-- By the byte where its name would stand, then by what its lane has.
use Rattle.typing.proofs.ApartLaws.{among_null, among_found, among_not}
use Rattle.typing.proofs.field.named_among.Goals as goal

pub returns-then-null_at : goal.returns-then-null_at
returns-then-null_at c = search among_null

pub returns-in-Some : goal.returns-in-Some
returns-in-Some c = search among_found

pub returns-in-None : goal.returns-in-None
returns-in-None c = search among_not
