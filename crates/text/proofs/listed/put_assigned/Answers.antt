-- Where it is, and what is wrong.
use Rattle.text.proofs.BlamedLaws.{set_blamed}
use Rattle.text.proofs.listed.put_assigned.Goals as goal

pub returns-clause-put : goal.returns-clause-put
returns-clause-put c = search set_blamed
