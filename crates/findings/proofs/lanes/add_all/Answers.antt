use mathlib.Core.Path.{refl}
use borrow.Author.Rules.{rules}
use Rattle.typing.proofs.LaneLaws.{lanes_all}
use Rattle.findings.proofs.lanes.add_all.Goals as goal

pub loop-k-init : goal.loop-k-init
loop-k-init c = (search rules, refl)

pub loop-k-preserved : goal.loop-k-preserved
loop-k-preserved c = (search rules, search rules)

pub returns : goal.returns
returns c = search lanes_all
