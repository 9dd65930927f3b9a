-- By the two kinds of string.
use Rattle.reading.proofs.Strings.{name_alphabet, version_alphabet}
use Rattle.reading.proofs.text.all_in_alphabet.Goals as goal

pub returns-in-Name : goal.returns-in-Name
returns-in-Name c = search name_alphabet

pub returns-in-Version : goal.returns-in-Version
returns-in-Version c = search version_alphabet
