-- What is left decides.
use Rattle.std.proofs.Common.{rules}
use Rattle.reading.proofs.Skips.{skip_done, skip_further, skip_less, skip_out}
use Rattle.reading.proofs.cursor.Cursor.skip_any.Goals as goal

pub returns-in_err-items : goal.returns-in_err-items
returns-in_err-items c = search (rules, skip_out _ _ _ _ c.loop-left.invariant c.loop-left-test.true c.skip_head.ensures c.in_err-items.was)

pub loop-left-smaller : goal.loop-left-smaller
loop-left-smaller c = skip_less _ _ _ _ c.loop-left.invariant c.loop-left-test.true c.skip_head.ensures c.in_ok-items.was c.skip_shorts-rest.ensures.at_le_at

pub loop-left-preserved : goal.loop-left-preserved
loop-left-preserved c = skip_further _ _ _ _ c.loop-left.invariant c.loop-left-test.true c.skip_head.ensures c.in_ok-items.was c.skip_shorts-rest.ensures.at_value

pub returns : goal.returns
returns c = search skip_done
