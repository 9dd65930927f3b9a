-- The upper bits of the print, spread.
use native.Mathlib.Nat.{mod-lt}
use Rattle.typing.proofs.RollLaws.{lane_is}
use Rattle.typing.proofs.roll.roll_lane.Goals as goal

pub returns-clause-value : goal.returns-clause-value
returns-clause-value c = search lane_is

pub returns-clause-upper_bound : goal.returns-clause-upper_bound
returns-clause-upper_bound c = search mod-lt
