use Rattle.typing.proofs.LaneLaws.{laned_start}
use Rattle.typing.proofs.ApartLaws.{gather_start, gather_more}
use Rattle.typing.proofs.field.apart_by_lanes.Goals as goal

pub loop-i-init : goal.loop-i-init
loop-i-init c = gather_start _ _ (search laned_start)

pub loop-i-preserved : goal.loop-i-preserved
loop-i-preserved c = search gather_more
