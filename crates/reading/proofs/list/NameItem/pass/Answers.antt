-- Its content is passed over.
use Rattle.std.proofs.Common.{rules}
use Rattle.reading.proofs.Threads.{past_out, past_on, stands_map}
use Rattle.reading.proofs.list.NameItem.pass.Goals as goal

pub returns-in_err-next : goal.returns-in_err-next
returns-in_err-next c = search (rules, stands_map, past_out _ c.name.ensures c.in_err-next.was)

pub returns : goal.returns
returns c = search (stands_map, past_on _ c.name.ensures c.in_ok-next.was)
