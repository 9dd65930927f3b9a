-- The variables of the name's lane, one after another.
use mathlib.Core.Path.{◌≡◌}
use lib.ListN.{length}
use Rattle.findings.proofs.TouchLaws.{Touching}
use Rattle.findings.proofs.touch.touch.Given as goal

abbrev pub invariant-loop-p : goal.invariant-loop-p
invariant-loop-p l = (length l.marks ≡ length l.initial.marks) × Touching l.vars.doc.now l.vars.names.now l.name l.initial.marks l.vars.heads.now l.p l.marks

abbrev pub decreases-loop-p : goal.decreases-loop-p
decreases-loop-p l = l.p
