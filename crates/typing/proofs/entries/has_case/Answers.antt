-- By the case that stands there.
use Rattle.typing.proofs.EntryLaws.{case_was, case_none}
use Rattle.typing.proofs.entries.has_case.Goals as goal

pub returns-in-Ok : goal.returns-in-Ok
returns-in-Ok c = search case_was

pub returns-in-Err : goal.returns-in-Err
returns-in-Err c = search case_none
