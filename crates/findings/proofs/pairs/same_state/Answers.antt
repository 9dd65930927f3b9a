-- Unequal prints tell them apart.
use borrow.Author.Tests.{ne_eqb}
use Rattle.findings.proofs.PairTests.{states_apart, states_same}
use Rattle.findings.proofs.pairs.same_state.Goals as goal

pub returns-else-print_word : goal.returns-else-print_word
returns-else-print_word c = rw (ne_eqb _ _ c.if-print_word.false) (search states_apart)

pub returns-then-print_word : goal.returns-then-print_word
returns-then-print_word c = search states_same
