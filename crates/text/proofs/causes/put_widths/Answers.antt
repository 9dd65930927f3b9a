-- One text after another.
use borrow.Author.Rules.{rules}
use Rattle.text.proofs.PutLaws.{◌then◌}
use Rattle.text.proofs.causes.put_widths.Goals as goal

pub returns : goal.returns
returns c = record { put = record { put = c.put_bytes-a.ensures then c.put_decimal-b.ensures.put then c.put_bytes-c.ensures then c.put_decimal-d.ensures.put then c.put_bytes.ensures }; upper_bound = search rules }
