-- One text after another.
use borrow.Author.Rules.{rules}
use Rattle.text.specs.Pieces.{in_transition}
use Rattle.text.proofs.PutLaws.{◌then◌}
use Rattle.text.proofs.listed.put_transition.Goals as goal

pub returns : goal.returns
unfolding in_transition
returns c = record { put = c.put_module-a.ensures.put then c.put_bytes-b.ensures then c.put_decimal.ensures.put; upper_bound = search rules }
