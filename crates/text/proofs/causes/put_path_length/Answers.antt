-- One text after another.
use mathlib.Core.Path.{refl}
use borrow.Author.Rules.{rules}
use Rattle.typing.specs.Means.{cause_of}
use Rattle.text.specs.CauseText.{cause_text}
use Rattle.text.proofs.PutLaws.{put_none}
use Rattle.text.proofs.CauseLaws.{within, one_told}
use Rattle.text.proofs.causes.put_path_length.Goals as goal

pub returns : goal.returns
unfolding cause_text cause_of
returns c = record { put = one_told _ (within c.put_bytes-a.ensures c.put_decimal.ensures.put (put_none refl)) refl refl refl; upper_bound = search rules }
