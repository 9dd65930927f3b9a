-- Where it is, and what is wrong.
use Rattle.text.proofs.BlamedLaws.{row_blamed}
use Rattle.text.proofs.judged.put_row.Goals as goal

pub returns-clause-put : goal.returns-clause-put
returns-clause-put c = search row_blamed
