use Rattle.typing.proofs.Counts.{all_left, some_left, none_left, fewer_left}
use Rattle.typing.proofs.TableLaws.{fill_start, fill_more, fill_done, fill_few}
use Rattle.typing.proofs.fill.fill_table.Goals as goal

pub loop-init : goal.loop-init
loop-init c = rw (all_left _) (search fill_start)

pub loop-preserved : goal.loop-preserved
loop-preserved c = rw (fewer_left _ _) (fill_more _ _ _ c.loop.invariant (some_left c.loop-test.true) c.after_head-name.ensures c.store.ensures c.after-under.ensures.is c.store-in-loop.ensures c.after-k.ensures.is)

pub returns-clause-filled : goal.returns-clause-filled
returns-clause-filled c = search (fill_done, none_left)

pub returns-clause-upper_bound : goal.returns-clause-upper_bound
returns-clause-upper_bound c = search fill_few
