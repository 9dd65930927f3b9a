use native.Mathlib.Omega.{arith}
use borrow.Author.Rules.{rules}
use Rattle.findings.proofs.ReachLaws.{following_start, following_more, following_end}
use Rattle.findings.proofs.LinkLaws.{linked_links, linked_heads}
use Rattle.findings.proofs.walk.walk.Goals as goal

pub loop-head-init : goal.loop-head-init
loop-head-init c = (omega arith, omega arith, search following_start, search linked_links, search linked_heads)

pub loop-head-preserved : goal.loop-head-preserved
loop-head-preserved c = (omega arith, omega arith, search following_more, search rules, search rules)

pub returns : goal.returns
returns c = search following_end
