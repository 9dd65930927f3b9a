-- Where there is one.
use Rattle.findings.proofs.MentionLaws.{guard_none, guard_some}
use Rattle.findings.proofs.mentions.touch_guard.Goals as goal

pub returns-then-null_at : goal.returns-then-null_at
returns-then-null_at c = search guard_none

pub returns : goal.returns
returns c = search guard_some
