use native.Mathlib.Omega.{arith}
use Rattle.typing.proofs.ChainLaws.{link_start, link_room, link_more, link_done}
use Rattle.typing.proofs.roll.link_items.Goals as goal

pub loop-i-init : goal.loop-i-init
loop-i-init c = search link_start

pub next_from-requires-clause-hint_in_bounds : goal.next_from-requires-clause-hint_in_bounds
next_from-requires-clause-hint_in_bounds c = search link_room

pub loop-i-preserved : goal.loop-i-preserved
loop-i-preserved c = search link_more

pub returns-clause-chained : goal.returns-clause-chained
returns-clause-chained c = link_done _ _ _ c.loop-i.invariant (omega arith)
