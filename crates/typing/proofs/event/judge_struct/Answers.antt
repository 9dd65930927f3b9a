-- By the two counts.
use Rattle.typing.proofs.EventLaws.{alone_spares, struct_count, struct_fields}
use Rattle.typing.proofs.event.judge_struct.Goals as goal

pub returns-then-m-n-clause-judges_struct : goal.returns-then-m-n-clause-judges_struct
returns-then-m-n-clause-judges_struct c = search struct_count

pub returns-then-m-n-clause-spares : goal.returns-then-m-n-clause-spares
returns-then-m-n-clause-spares c = search alone_spares

pub returns-clause-judges_struct : goal.returns-clause-judges_struct
returns-clause-judges_struct c = search struct_fields
