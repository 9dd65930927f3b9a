-- The block that the table begins with decides.
use Rattle.typing.proofs.BlockLaws.{enum_short, enum_in_block}
use Rattle.typing.proofs.block.find_enum.Goals as goal

pub returns-then-table-lt829 : goal.returns-then-table-lt829
returns-then-table-lt829 c = search enum_short

pub returns : goal.returns
returns c = search enum_in_block
