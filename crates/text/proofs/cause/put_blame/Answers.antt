-- Nothing, or one text after another.
use mathlib.Core.Path.{refl}
use borrow.Author.Rules.{rules}
use Rattle.typing.specs.Means.{blame_of}
use Rattle.text.specs.CauseText.{blame_text}
use Rattle.text.proofs.PutLaws.{put_none, ◌then◌}
use Rattle.text.proofs.cause.put_blame.Goals as goal

pub returns-in-Ok-clause-put : goal.returns-in-Ok-clause-put
unfolding blame_text blame_of
returns-in-Ok-clause-put c = rw c.in-Ok.is (put_none refl)

pub returns-in-Err : goal.returns-in-Err
unfolding blame_text blame_of
returns-in-Err c = record { put = rw c.in-Err.is (c.put_within-k.ensures.put then c.put_cause.ensures.put); upper_bound = search rules }
