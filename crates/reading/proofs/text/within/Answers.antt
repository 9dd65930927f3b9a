-- By the tests on the way.
use borrow.Author.Rules.{rules}
use Rattle.reading.proofs.Answers.{tests}
use Rattle.reading.proofs.text.within.Goals as goal

pub returns-then-b-low-clause-value : goal.returns-then-b-low-clause-value
returns-then-b-low-clause-value c = search (rules, tests)

pub returns-then-b-low-clause-upper_bound : goal.returns-then-b-low-clause-upper_bound
returns-then-b-low-clause-upper_bound c = search (rules, tests)

pub returns-then-high-b-clause-value : goal.returns-then-high-b-clause-value
returns-then-high-b-clause-value c = search (rules, tests)

pub returns-then-high-b-clause-upper_bound : goal.returns-then-high-b-clause-upper_bound
returns-then-high-b-clause-upper_bound c = search (rules, tests)

pub returns-clause-value : goal.returns-clause-value
returns-clause-value c = search (rules, tests)

pub returns-clause-upper_bound : goal.returns-clause-upper_bound
returns-clause-upper_bound c = search (rules, tests)
