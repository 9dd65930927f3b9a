-- The enums are filled in, put on their lanes, and given their segments.
use Rattle.typing.proofs.SegmentLaws.{enums_filled, enums_size}
use Rattle.typing.proofs.segments.fill_enums.Goals as goal

pub returns-clause-keeps_enums : goal.returns-clause-keeps_enums
returns-clause-keeps_enums c = search enums_filled

pub returns-clause-table_len_unchanged : goal.returns-clause-table_len_unchanged
returns-clause-table_len_unchanged c = search enums_size
