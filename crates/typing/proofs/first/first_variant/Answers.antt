use Rattle.typing.proofs.Counts.{all_left, some_left, none_left, fewer_left}
use Rattle.typing.proofs.EntryLaws.{scan_start}
use Rattle.typing.proofs.FirstLaws.{first_done, variant_hit, variant_miss, variant_passed}
use Rattle.typing.proofs.first.first_variant.Goals as goal
use Rattle.typing.proofs.first.first_variant.Goals.{in-Some, in-None+in-Some-p}

pub loop-init : goal.loop-init
loop-init c = rw (all_left _) (scan_start _ _ _ _ _)

pub returns-in_default : goal.returns-in_default
returns-in_default c = search (variant_hit, some_left)

pub loop-preserved : goal.loop-preserved
loop-preserved c = rw (fewer_left _ _) (elim c.match-o.branch [ in-Some w ↦ rw w.k-is (search (variant_passed, some_left)) | in-None+in-Some-p w ↦ rw w.k-is (search (variant_miss, some_left)) ])

pub returns : goal.returns
returns c = search (first_done, none_left)
