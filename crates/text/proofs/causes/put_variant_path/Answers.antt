-- One text after another.
use mathlib.Core.Path.{refl}
use borrow.Author.Rules.{rules}
use Rattle.typing.specs.Means.{cause_of}
use Rattle.text.specs.CauseText.{cause_text}
use Rattle.text.proofs.PutLaws.{put_none, ◌then◌}
use Rattle.text.proofs.CauseLaws.{within, two_told}
use Rattle.text.proofs.causes.put_variant_path.Goals as goal

pub returns : goal.returns
unfolding cause_text cause_of
returns c = record { put = two_told _ (within c.put_bytes-a.ensures c.put_names-b.ensures.put c.put_bytes-c.ensures) _ _ (c.put_text.ensures.put then put_none refl) refl refl refl refl; upper_bound = search rules }
