-- All are in the alphabet where as many are as there are.
use Rattle.reading.proofs.Strings.{count_all}
use Rattle.reading.proofs.text.all_counted.Goals as goal

pub returns : goal.returns
returns c = search count_all
