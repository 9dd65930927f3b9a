use Rattle.typing.proofs.Counts.{all_left, some_left, none_left, fewer_left}
use Rattle.typing.proofs.EntryLaws.{scan_start}
use Rattle.typing.proofs.FirstLaws.{first_done, enum_hit, enum_miss}
use Rattle.typing.proofs.first.first_enum.Goals as goal

pub loop-init : goal.loop-init
loop-init c = rw (all_left _) (scan_start _ _ _ _ _)

pub returns-then-same : goal.returns-then-same
returns-then-same c = search (enum_hit, some_left)

pub loop-preserved : goal.loop-preserved
loop-preserved c = rw (fewer_left _ _) (search (enum_miss, some_left))

pub returns : goal.returns
returns c = search (first_done, none_left)
