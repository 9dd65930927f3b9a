-- Where there is one.
use Rattle.findings.proofs.MentionLaws.{error_none, error_some}
use Rattle.findings.proofs.mentions.touch_error.Goals as goal

pub returns-then-null_at : goal.returns-then-null_at
returns-then-null_at c = search error_none

pub returns : goal.returns
returns c = search error_some
