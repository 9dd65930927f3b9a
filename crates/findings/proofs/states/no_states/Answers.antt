-- By the count of the list, where there is one.
use Rattle.findings.proofs.StateLaws.{states_nothing, states_many, states_refused}
use Rattle.findings.proofs.states.no_states.Goals as goal

pub returns-in_default : goal.returns-in_default
returns-in_default c = search states_nothing

pub returns-in-Ok : goal.returns-in-Ok
returns-in-Ok c = search states_many

pub returns-in-Err : goal.returns-in-Err
returns-in-Err c = search states_refused
