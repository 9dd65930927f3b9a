-- As it is defined.
use mathlib.Core.Path.{refl}
use Rattle.typing.specs.Lanes.{factor}
use Rattle.typing.proofs.lanes.factor.Goals as goal

pub returns : goal.returns
unfolding factor
returns c = refl
