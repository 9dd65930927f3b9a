use Rattle.typing.proofs.Counts.{all_left, some_left, none_left, fewer_left}
use Rattle.typing.proofs.EntryLaws.{scan_start}
use Rattle.typing.proofs.JudgeLaws.{fields_done, fields_hit, fields_miss}
use Rattle.typing.proofs.binds.fields_bind.Goals as goal

pub loop-init : goal.loop-init
loop-init c = rw (all_left _) (scan_start _ _ _ _ _)

pub returns-then-field_binds : goal.returns-then-field_binds
returns-then-field_binds c = search (fields_hit, some_left)

pub loop-preserved : goal.loop-preserved
loop-preserved c = rw (fewer_left _ _) (search (fields_miss, some_left))

pub returns : goal.returns
returns c = search (fields_done, none_left)
