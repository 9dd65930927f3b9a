use native.Mathlib.Omega.{arith}
use borrow.Author.Rules.{rules}
use Rattle.findings.proofs.ClassLaws.{firsts_start, firsts_done}
use Rattle.findings.proofs.FirstLaws.{guards_seen, guards_fresh}
use Rattle.findings.proofs.classes.first_guards.Goals as goal
use Rattle.findings.proofs.classes.first_guards.Goals.{then-seen-w-ne0, else-seen-w-ne0}

pub loop-i-init : goal.loop-i-init
loop-i-init c = firsts_start _ _ _ _ _ _ (omega arith) (search rules) (search rules)

pub loop-i-preserved : goal.loop-i-preserved
loop-i-preserved c = elim c.if-seen-w-ne0.branch [
  | then-seen-w-ne0 w ↦ search guards_seen
  | else-seen-w-ne0 w ↦ search guards_fresh
]

pub returns : goal.returns
returns c = search firsts_done
