use native.Mathlib.Omega.{arith}
use Rattle.findings.proofs.EachLaws.{walk_few}
use Rattle.findings.proofs.DeadLaws.{variants_refused, variants_start, variants_more, variants_done}
use Rattle.findings.proofs.dead.note_variants.Goals as goal

pub returns-in_default-clause-notes_variants : goal.returns-in_default-clause-notes_variants
returns-in_default-clause-notes_variants c = search variants_refused

pub loop-j-init : goal.loop-j-init
loop-j-init c = (search walk_few, omega arith, search variants_start)

pub loop-j-preserved : goal.loop-j-preserved
loop-j-preserved c = (omega arith, omega arith, search variants_more)

pub returns-clause-notes_variants : goal.returns-clause-notes_variants
returns-clause-notes_variants c = search variants_done
