-- One text after another.
use borrow.Author.Rules.{rules}
use Rattle.text.proofs.PutLaws.{◌then◌}
use Rattle.text.proofs.causes.put_counts.Goals as goal

pub returns : goal.returns
returns c = record { put = record { put = c.put_name-a.ensures.put_within.put then c.put_decimal-b.ensures.put then c.put_bytes-c.ensures then c.put_decimal.ensures.put }; upper_bound = search rules }
