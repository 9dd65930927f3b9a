-- By the first byte.
use Rattle.typing.proofs.ShortLaws.{stops_number, stops_empty, stops_simple, stops_name}
use Rattle.typing.proofs.table.short_end.Goals as goal

pub returns-then-n-doc : goal.returns-then-n-doc
returns-then-n-doc c = search stops_name

pub returns-then-b-lt24 : goal.returns-then-b-lt24
returns-then-b-lt24 c = search stops_number

pub returns-then-b : goal.returns-then-b
returns-then-b c = search stops_empty

pub returns-then-b-lt247 : goal.returns-then-b-lt247
returns-then-b-lt247 c = search stops_simple
