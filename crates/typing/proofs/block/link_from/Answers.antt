-- By the head: there is none, it has the name, or it has another.
use Rattle.typing.proofs.BlockLaws.{link_none, link_same, link_other}
use Rattle.typing.proofs.block.link_from.Goals as goal

pub returns-then-head-eq0 : goal.returns-then-head-eq0
returns-then-head-eq0 c = search link_none

pub returns-then-same_name : goal.returns-then-same_name
returns-then-same_name c = link_same _ _ _ _ _ c.if-head-eq0.false c.same_name.ensures c.if-same_name.true

pub returns : goal.returns
returns c = search link_other
