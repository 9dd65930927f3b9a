-- The count of items, then the item.
use Rattle.std.proofs.Common.{rules}
use Rattle.reading.specs.Link.{one_ends}
use Rattle.reading.proofs.Threads.{onward_out, onward_on}
use Rattle.reading.proofs.cursor.Cursor.one.Goals as goal

pub returns-in_err-fields : goal.returns-in_err-fields
unfolding one_ends
returns-in_err-fields g c = search (rules, onward_out (λ z. g.I.Item.ends c.args.doc.now z.at) c.sized.ensures c.in_err-fields.was)

pub returns : goal.returns
unfolding one_ends
returns g c = onward_on (λ z. g.I.Item.ends c.args.doc.now z.at) c.sized.ensures c.in_ok-fields.was c.pass.ensures
