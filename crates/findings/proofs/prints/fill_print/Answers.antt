-- The words of the row.
use Rattle.findings.proofs.PrintLaws.{row_words}
use Rattle.findings.proofs.prints.fill_print.Goals as goal

pub returns : goal.returns
returns c = search row_words
