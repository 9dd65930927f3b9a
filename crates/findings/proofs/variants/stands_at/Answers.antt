-- By the prints, and then by the bytes.
use borrow.Author.Tests.{ne_eqb}
use Rattle.findings.proofs.VariantLaws.{stands_apart, stands_bytes}
use Rattle.findings.proofs.variants.stands_at.Goals as goal

pub returns-else-variants-j : goal.returns-else-variants-j
returns-else-variants-j c = rw (ne_eqb _ _ c.if-variants-j.false) (search stands_apart)

pub returns-then-variants-j : goal.returns-then-variants-j
returns-then-variants-j c = search stands_bytes
