-- As it is defined.
use mathlib.Core.Path.{refl}
use Rattle.typing.specs.Lanes.{spread}
use Rattle.typing.proofs.lanes.spread.Goals as goal

pub returns : goal.returns
unfolding spread
returns c = refl
