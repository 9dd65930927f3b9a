use Rattle.typing.proofs.Counts.{all_left, some_left, none_left, fewer_left}
use Rattle.typing.proofs.TableLaws.{names_open, name_hit, name_miss, name_passed, name_none}
use Rattle.typing.proofs.table.has_name.Goals as goal
use Rattle.typing.proofs.table.has_name.Goals.{in-Some, in-None+else-same}

pub loop-init : goal.loop-init
loop-init c = rw (all_left _) (search names_open)

pub returns-then-same : goal.returns-then-same
returns-then-same c = search (name_hit, some_left)

pub loop-preserved : goal.loop-preserved
loop-preserved c = rw (fewer_left _ _) (elim c.match-o.branch [ in-Some w ↦ rw w.k-is (search (name_passed, some_left)) | in-None+else-same w ↦ rw w.k-is (search (name_miss, some_left)) ])

pub returns : goal.returns
returns c = search (name_none, none_left)
