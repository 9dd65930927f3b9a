-- By the two cases of a head.
use Rattle.std.proofs.Common.{rules}
use Rattle.reading.proofs.Skips.{body_from, head_body, head_none}
use Rattle.reading.proofs.cursor.Cursor.skip_head.Goals as goal

pub returns-in_err-head : goal.returns-in_err-head
returns-in_err-head c = search (rules, head_none c.args.more _ _ c.head.ensures c.in_err-head.was)

pub skip_body-requires : goal.skip_body-requires
skip_body-requires c = body_from c.args.more _ _ c.head.ensures c.in_ok-head.was

pub returns : goal.returns
returns c = head_body _ _ _ c.head.ensures c.in_ok-head.was c.inside.ensures c.payload.ensures c.skip_body.ensures
