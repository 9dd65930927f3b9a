-- By where a short data enum ends.
use Rattle.typing.proofs.ShortLaws.{stops_past}
use Rattle.typing.proofs.table.after_case.Goals as goal

pub returns-in-Some : goal.returns-in-Some
returns-in-Some c = search stops_past
