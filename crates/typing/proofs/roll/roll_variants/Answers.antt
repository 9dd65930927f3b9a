-- By whether there was a roll to put.
use Rattle.typing.proofs.FillLaws.{roll_none, roll_put}
use Rattle.typing.proofs.roll.roll_variants.Goals as goal

pub returns-then-q-gt65535 : goal.returns-then-q-gt65535
returns-then-q-gt65535 c = search roll_none

pub returns-then-r-eq0 : goal.returns-then-r-eq0
returns-then-r-eq0 c = search roll_none

pub returns : goal.returns
returns c = search roll_put
