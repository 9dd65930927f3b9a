-- The pair is put before those of its lane.
use Rattle.typing.proofs.BlockLaws.{weaves_more}
use Rattle.typing.proofs.block.weave_pair.Goals as goal

pub link_from-link-requires-clause-head_le_i : goal.link_from-link-requires-clause-head_le_i
link_from-link-requires-clause-head_le_i c = search c.requires.block_woven.head_low

pub returns : goal.returns
returns c = search weaves_more
