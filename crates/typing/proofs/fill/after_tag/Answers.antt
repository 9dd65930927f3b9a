-- By where the head ends.
use Rattle.typing.proofs.TableLaws.{tag_to, tag_away}
use Rattle.typing.proofs.fill.after_tag.Goals as goal

pub returns-in-Ok : goal.returns-in-Ok
returns-in-Ok c = search tag_to

pub returns-in-Err : goal.returns-in-Err
returns-in-Err c = search tag_away
