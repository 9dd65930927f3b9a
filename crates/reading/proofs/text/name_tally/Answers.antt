-- A byte of a name is in one of the four ranges, and another in none.
use borrow.Author.Rules.{rules}
use Rattle.reading.proofs.Bytewise.{name_parts}
use Rattle.reading.proofs.Strings.{tallied}
use Rattle.reading.proofs.text.name_tally.Goals as goal

pub returns : goal.returns
returns c = let p = tallied _ (search (rules, name_parts)) in record { value = p.0; upper_bound = p.1 }
