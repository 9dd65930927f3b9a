-- By the name of that number.
use borrow.Author.Tests.{le-ltb}
use Rattle.findings.proofs.VariantLaws.{hint_stands, hint_past}
use Rattle.findings.proofs.variants.is_hinted.Goals as goal

pub returns-then-j-variants : goal.returns-then-j-variants
returns-then-j-variants c = search hint_stands

pub returns-else-j-variants : goal.returns-else-j-variants
returns-else-j-variants c = rw (le-ltb _ _ c.if-j-variants.false) (search hint_past)
