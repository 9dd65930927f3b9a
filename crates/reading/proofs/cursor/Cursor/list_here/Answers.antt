-- The count, then one entry after the other.
use Rattle.std.proofs.Common.{rules, sym}
use Rattle.reading.specs.Link.{list_ends}
use Rattle.reading.proofs.Threads.{on_error, entry_read, entry_out, entries_done, list_out, list_on}
use Rattle.reading.proofs.cursor.Cursor.list_here.Goals as goal

pub returns-in_err-count : goal.returns-in_err-count
unfolding list_ends
returns-in_err-count g c = on_error (list_out _ _ c.count.ensures c.in_err-count.was) (search rules)

pub returns-in_err-c : goal.returns-in_err-c
unfolding list_ends
returns-in_err-c g c =
    on_error (list_on _ _ c.count.ensures c.in_ok-count.was (sym (entry_out _ _ _ _ c.loop.invariant c.loop-test.true c.pass.ensures c.in_err-c.was))) (search rules)

pub loop-preserved : goal.loop-preserved
loop-preserved g c = entry_read _ _ _ _ c.loop.invariant c.loop-test.true c.pass.ensures c.in_ok-c.was

pub returns : goal.returns
unfolding list_ends
returns g c = list_on _ _ c.count.ensures c.in_ok-count.was (sym (entries_done _ _ _ _ c.loop.invariant c.loop-test.false))
