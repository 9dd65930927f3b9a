use mathlib.Core.Path.{refl}
use native.Mathlib.Omega.{arith}
use borrow.Author.Rules.{rules}
use Rattle.typing.proofs.LaneLaws.{no_lanes}
use Rattle.findings.proofs.EachLaws.{count_start}
use Rattle.findings.proofs.ClaimLaws.{repeats_more, repeats_done}
use Rattle.findings.proofs.claims.note_repeats.Goals as goal

pub loop-i-init : goal.loop-i-init
loop-i-init c = (search count_start, refl, omega arith, no_lanes _ _ _, search rules)

pub loop-i-preserved : goal.loop-i-preserved
loop-i-preserved c = (search repeats_more, search rules, omega arith, search rules, omega arith)

pub returns-clause-notes_repeats : goal.returns-clause-notes_repeats
returns-clause-notes_repeats c = search repeats_done
