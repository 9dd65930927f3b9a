-- One text after another.
use borrow.Author.Rules.{rules}
use Rattle.text.specs.Pieces.{in_state}
use Rattle.text.proofs.PutLaws.{◌then◌}
use Rattle.text.proofs.pieces.put_state.Goals as goal

pub returns : goal.returns
unfolding in_state
returns c = record { put = c.put_bytes-a.ensures then c.put_text-b.ensures.put then c.put_bytes-c.ensures then c.put_text.ensures.put; upper_bound = search rules }
