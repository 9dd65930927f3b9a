-- Written where the number is not 0.
use Rattle.findings.proofs.NoteLaws.{numbered_none, numbered_one, note_more}
use Rattle.findings.proofs.sheet.emit_cause.Goals as goal

pub returns-then-cause-eq0-clause-noted : goal.returns-then-cause-eq0-clause-noted
returns-then-cause-eq0-clause-noted c = search numbered_none

pub returns-clause-noted : goal.returns-clause-noted
returns-clause-noted c = search numbered_one

pub returns-clause-upper_bound : goal.returns-clause-upper_bound
returns-clause-upper_bound c = search note_more
