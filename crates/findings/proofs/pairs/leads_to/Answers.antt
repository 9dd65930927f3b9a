-- Unequal prints tell them apart.
use borrow.Author.Tests.{ne_eqb}
use Rattle.findings.proofs.PairTests.{leads_apart, leads_same}
use Rattle.findings.proofs.pairs.leads_to.Goals as goal

pub returns-else-print_word : goal.returns-else-print_word
returns-else-print_word c = rw (ne_eqb _ _ c.if-print_word.false) (search leads_apart)

pub returns-then-print_word : goal.returns-then-print_word
returns-then-print_word c = search leads_same
