-- By whether the text fits.
use Rattle.text.proofs.ToldLaws.{short_told, short_text, whole_told, whole_text}
use Rattle.text.proofs.words.write.Goals as goal

pub returns-then-out-n-clause-value : goal.returns-then-out-n-clause-value
returns-then-out-n-clause-value c = search short_told

pub returns-then-out-n-clause-out_after : goal.returns-then-out-n-clause-out_after
returns-then-out-n-clause-out_after c = search short_text

pub returns-clause-value : goal.returns-clause-value
returns-clause-value c = search whole_told

pub returns-clause-out_after : goal.returns-clause-out_after
returns-clause-out_after c = search whole_text
