-- By the tests on the way.
use Rattle.reading.proofs.Answers.{tests}
use Rattle.reading.specs.Text.{version_byte}
use Rattle.reading.proofs.text.VersionBytesAlphabet.has.Goals as goal

pub returns-in-32-to-126 : goal.returns-in-32-to-126
unfolding version_byte
returns-in-32-to-126 c = search tests

pub returns-in_default : goal.returns-in_default
unfolding version_byte
returns-in_default c = search tests

pub returns-in_default-2 : goal.returns-in_default-2
unfolding version_byte
returns-in_default-2 c = search tests
