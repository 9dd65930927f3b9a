-- One text after another.
use borrow.Author.Rules.{rules}
use Rattle.text.specs.Pieces.{in_priority}
use Rattle.text.proofs.PutLaws.{◌then◌}
use Rattle.text.proofs.pieces.put_rank.Goals as goal

pub returns : goal.returns
unfolding in_priority
returns c = record { put = c.put_state-a.ensures.put then c.put_bytes-b.ensures then c.put_decimal.ensures.put; upper_bound = search rules }
