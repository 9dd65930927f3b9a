-- By the two kinds of string.
use Rattle.reading.proofs.Strings.{name_least, version_least}
use Rattle.reading.proofs.text.least.Goals as goal

pub returns-in-Name : goal.returns-in-Name
returns-in-Name c = search name_least

pub returns-in-Version : goal.returns-in-Version
returns-in-Version c = search version_least
