-- Written where the test holds.
use Rattle.findings.proofs.NoteLaws.{noted_yes, noted_no, note_more}
use Rattle.findings.proofs.sheet.emit_if.Goals as goal

pub returns-then-test-clause-noted : goal.returns-then-test-clause-noted
returns-then-test-clause-noted c = search noted_yes

pub returns-then-test-clause-upper_bound : goal.returns-then-test-clause-upper_bound
returns-then-test-clause-upper_bound c = search note_more

pub returns-clause-noted : goal.returns-clause-noted
returns-clause-noted c = search noted_no
