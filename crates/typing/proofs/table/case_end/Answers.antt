-- By the first two bytes.
use Rattle.typing.proofs.ShortLaws.{stops_case, stops_second}
use Rattle.typing.proofs.table.case_end.Goals as goal

pub returns-then-b : goal.returns-then-b
returns-then-b c = search stops_case

pub returns-then-b-2 : goal.returns-then-b-2
returns-then-b-2 c = search stops_second
