-- By the tests on the way.
use Rattle.reading.proofs.Strings.{text_short, text_done, text_fault}
use Rattle.reading.proofs.text.text_bytes.Goals as goal

pub returns-then-doc-from : goal.returns-then-doc-from
returns-then-doc-from c = search text_short

pub returns-then-all_in_alphabet : goal.returns-then-all_in_alphabet
returns-then-all_in_alphabet c = search text_done

pub returns : goal.returns
returns c = search text_fault
