-- By what the search for State finds.
use Rattle.findings.proofs.StateLaws.{no_enum, enum_found}
use Rattle.findings.proofs.states.first_states.Goals as goal

pub returns-in_default : goal.returns-in_default
returns-in_default c = search no_enum

pub returns : goal.returns
returns c = search enum_found
