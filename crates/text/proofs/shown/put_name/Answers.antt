-- One text after another.
use borrow.Author.Rules.{rules}
use Rattle.text.proofs.PutLaws.{◌then◌}
use Rattle.text.proofs.shown.put_name.Goals as goal

pub returns : goal.returns
returns c = record { put_within = record { put = c.put_bytes-a.ensures then c.put_text-b.ensures.put then c.put_bytes.ensures }; upper_bound = search rules }
