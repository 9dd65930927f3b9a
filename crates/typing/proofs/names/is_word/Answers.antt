-- By the bytes that are handed out.
use Rattle.typing.proofs.NameLaws.{by_text}
use Rattle.typing.proofs.names.is_word.Goals as goal

pub returns : goal.returns
returns c = search by_text
