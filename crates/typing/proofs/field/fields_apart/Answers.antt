-- None is counted, or as many as the lanes tell.
use Rattle.typing.proofs.ApartLaws.{apart_none}
use Rattle.typing.proofs.field.fields_apart.Goals as goal

pub returns-then-count-lt16 : goal.returns-then-count-lt16
returns-then-count-lt16 c = search apart_none
