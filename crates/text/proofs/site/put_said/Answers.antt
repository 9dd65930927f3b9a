-- Nothing, or one text after another.
use mathlib.Core.Path.{refl}
use borrow.Author.Rules.{rules}
use Rattle.text.specs.Message.{saying_text}
use Rattle.text.specs.Said.{saying_of}
use Rattle.text.proofs.PutLaws.{put_none, ◌then◌}
use Rattle.text.proofs.site.put_said.Goals as goal

pub returns-in_default-clause-put : goal.returns-in_default-clause-put
unfolding saying_text saying_of
returns-in_default-clause-put c = rw c.in_default.is (put_none refl)

pub returns : goal.returns
unfolding saying_text saying_of
returns c = record { put = rw c.in-Some.is (c.put_site-k.ensures.put then c.put_blame.ensures.put); upper_bound = search rules }
