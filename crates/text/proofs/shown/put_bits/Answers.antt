-- One text after another.
use Rattle.text.specs.Shown.{debug_type}
use Rattle.text.proofs.PutLaws.{◌then◌}
use borrow.Author.Rules.{rules}
use Rattle.text.proofs.shown.put_bits.Goals as goal

pub returns : goal.returns
unfolding debug_type
returns c = record { put = c.put_bytes-a.ensures then c.put_decimal-b.ensures.put then c.put_bytes.ensures; upper_bound = search rules }
