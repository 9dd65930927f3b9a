-- Where it is, and what is wrong.
use Rattle.text.proofs.BlamedLaws.{entry_blamed}
use Rattle.text.proofs.listed.put_entry.Goals as goal

pub returns-clause-put : goal.returns-clause-put
returns-clause-put c = search entry_blamed
