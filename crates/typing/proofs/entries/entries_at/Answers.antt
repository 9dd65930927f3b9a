-- By the count's answer.
use Rattle.typing.proofs.EntryLaws.{opened_got, opened_none, opened_few}
use Rattle.typing.proofs.entries.entries_at.Goals as goal

pub returns-in-Ok-clause-value : goal.returns-in-Ok-clause-value
returns-in-Ok-clause-value c = search opened_got

pub returns-in-Ok-clause-many_bound : goal.returns-in-Ok-clause-many_bound
returns-in-Ok-clause-many_bound c = search opened_few

pub returns-in-Err-clause-value : goal.returns-in-Err-clause-value
returns-in-Err-clause-value c = search opened_none
