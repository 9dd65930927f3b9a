use native.Mathlib.Omega.{arith}
use borrow.Author.Rules.{rules}
use lib.ListN.{length-set}
use Rattle.findings.proofs.LinkLaws.{heads_size, linked_none, linked_more, linked_all}
use Rattle.findings.proofs.links.link_all.Goals as goal

pub loop-i-init : goal.loop-i-init
loop-i-init c = (omega arith, search heads_size, search heads_size, omega arith, linked_none _ _ (search rules) (search rules) (omega arith))

pub loop-i-preserved : goal.loop-i-preserved
loop-i-preserved c = (omega arith, omega arith, simp length-set (omega arith), simp length-set (omega arith), search linked_more)

pub returns : goal.returns
returns c = search linked_all
