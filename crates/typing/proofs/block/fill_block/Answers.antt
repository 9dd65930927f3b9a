-- The pairs are put on their lanes after they were filled in.
use Rattle.typing.proofs.BlockLaws.{list_filled, fills_size}
use Rattle.typing.proofs.block.fill_block.Goals as goal

pub returns-clause-keeps : goal.returns-clause-keeps
returns-clause-keeps c = search list_filled

pub returns-clause-table_len_unchanged : goal.returns-clause-table_len_unchanged
returns-clause-table_len_unchanged c = search fills_size
