-- Its content is passed over.
use Rattle.std.proofs.Common.{rules}
use Rattle.reading.proofs.Threads.{past_out, past_on}
use Rattle.reading.proofs.list.U64Item.pass.Goals as goal

pub returns-in_err-next : goal.returns-in_err-next
returns-in_err-next c = search (rules, past_out _ c.number.ensures c.in_err-next.was)

pub returns : goal.returns
returns c = search (past_on _ c.number.ensures c.in_ok-next.was)
