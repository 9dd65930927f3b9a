-- Its content is passed over.
use Rattle.std.proofs.Common.{rules}
use Rattle.reading.specs.Text.{read_version}
use Rattle.reading.specs.Link.{least_of, alphabet_of}
use Rattle.reading.proofs.Threads.{past_out, past_on, stands_map}
use Rattle.reading.proofs.list.VersionItem.pass.Goals as goal

pub returns-in_err-next : goal.returns-in_err-next
unfolding read_version least_of alphabet_of
returns-in_err-next c = search (rules, stands_map, past_out _ c.text.ensures c.in_err-next.was)

pub returns : goal.returns
unfolding read_version least_of alphabet_of
returns c = search (stands_map, past_on _ c.text.ensures c.in_ok-next.was)
