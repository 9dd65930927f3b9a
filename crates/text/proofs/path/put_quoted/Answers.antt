-- One text after another.
use Rattle.text.proofs.PutLaws.{◌then◌}
use borrow.Author.Rules.{rules}
use Rattle.text.proofs.path.put_quoted.Goals as goal

pub returns : goal.returns
returns c = record { put = c.put_bytes-a.ensures then c.put_text-b.ensures.put then c.put_bytes.ensures; upper_bound = search rules }
