-- By the bytes that are handed out.
use Rattle.typing.proofs.NameLaws.{by_texts}
use Rattle.typing.proofs.names.same_name.Goals as goal

pub returns : goal.returns
returns c = search by_texts
