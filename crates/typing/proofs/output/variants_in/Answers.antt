-- Past the name of the group that stands in the table.
use Rattle.typing.proofs.OutputLaws.{variants_at}
use Rattle.typing.proofs.output.variants_in.Goals as goal

pub returns-clause-value : goal.returns-clause-value
returns-clause-value c = search variants_at

pub returns-clause-bytes : goal.returns-clause-bytes
returns-clause-bytes c = c.after.ensures.each
