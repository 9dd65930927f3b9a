-- By whether there is a type.
use Rattle.findings.proofs.CauseLaws.{typed_none, typed_cause}
use Rattle.findings.proofs.cause.typed_number.Goals as goal

pub returns-in-Ok : goal.returns-in-Ok
returns-in-Ok c = search typed_none

pub returns-in-Err : goal.returns-in-Err
returns-in-Err c = search typed_cause
