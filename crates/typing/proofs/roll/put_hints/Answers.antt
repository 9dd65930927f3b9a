-- The items are linked, from no hints on, and then their links are put.
use Rattle.typing.proofs.ChainLaws.{zeros, hints_put}
use Rattle.typing.proofs.roll.put_hints.Goals as goal

pub link_items-requires-clause-by_index : goal.link_items-requires-clause-by_index
link_items-requires-clause-by_index c = zeros 256

pub returns : goal.returns
returns c = search hints_put
