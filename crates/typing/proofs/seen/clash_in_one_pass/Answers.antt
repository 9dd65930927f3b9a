-- From a table of no pairs.
use Rattle.typing.proofs.LaneLaws.{laned_start}
use Rattle.typing.proofs.SeenLaws.{pass_done}
use Rattle.typing.proofs.seen.clash_in_one_pass.Goals as goal

pub note_conjuncts-requires : goal.note_conjuncts-requires
note_conjuncts-requires c = search laned_start

pub returns : goal.returns
returns c = search pass_done
