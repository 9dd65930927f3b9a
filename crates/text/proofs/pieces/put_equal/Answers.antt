-- Its pieces one after another.
use mathlib.Core.Path.{refl}
use borrow.Author.Rules.{rules}
use Rattle.text.specs.Message.{site_form}
use Rattle.text.proofs.PieceLaws.{rank_put, told_rank}
use Rattle.text.proofs.pieces.put_equal.Goals as goal

pub returns : goal.returns
unfolding site_form
returns c = record { put = told_rank _ _ _ _ _ _ _ _ _ _ (rank_put _ _ _ _ _ _ c.put_rank-a.ensures.put c.put_ids.ensures.put refl refl refl); upper_bound = search rules }
