-- By its name, or by a pattern without variant.
use Rattle.findings.proofs.UseLaws.{used_named, used_bare, used_not}
use Rattle.findings.proofs.uses.is_used.Goals as goal

pub returns-then-is_variant : goal.returns-then-is_variant
returns-then-is_variant c = rw c.if-is_variant.true (search used_named)

pub returns-then-bare : goal.returns-then-bare
returns-then-bare c = search used_bare

pub returns-else-bare : goal.returns-else-bare
returns-else-bare c = rw c.if-bare.false (search used_not)
