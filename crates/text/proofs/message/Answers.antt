-- By whether there is such a finding.
use Rattle.text.proofs.ToldLaws.{line_short, words_told, words_text, absent_told, absent_text}
use Rattle.text.proofs.message.Goals as goal

pub write-requires : goal.write-requires
write-requires c = search line_short

pub returns-in-Ok-clause-value : goal.returns-in-Ok-clause-value
returns-in-Ok-clause-value c = search words_told

pub returns-in-Ok-clause-out_after : goal.returns-in-Ok-clause-out_after
returns-in-Ok-clause-out_after c = search words_text

pub returns-in-Err-clause-value : goal.returns-in-Err-clause-value
returns-in-Err-clause-value c = search absent_told

pub returns-in-Err-clause-out_after : goal.returns-in-Err-clause-out_after
returns-in-Err-clause-out_after c = search absent_text
