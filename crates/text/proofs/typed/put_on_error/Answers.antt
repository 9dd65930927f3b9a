-- Where it is, and what is wrong.
use mathlib.Core.Path.{refl}
use borrow.Author.Rules.{rules}
use Rattle.text.specs.Message.{site_form}
use Rattle.text.proofs.BlamedLaws.{module_blamed}
use Rattle.text.proofs.typed.put_on_error.Goals as goal

pub returns : goal.returns
unfolding site_form
returns c = record { put = module_blamed _ 17 _ _ _ c.put_module-a.ensures.put c.put_bytes-b.ensures c.put_blame.ensures.put refl refl; upper_bound = search rules }
