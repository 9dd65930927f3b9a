-- One text after another.
use borrow.Author.Rules.{rules}
use Rattle.text.proofs.PutLaws.{◌then◌}
use Rattle.text.proofs.causes.put_variant.Goals as goal

pub returns : goal.returns
returns c = record { put = record { put = c.put_name-a.ensures.put_within.put then c.put_text-b.ensures.put then c.put_bytes.ensures }; upper_bound = search rules }
