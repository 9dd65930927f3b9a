-- Where they are found.
use Rattle.findings.proofs.VariantLaws.{states_unfilled, states_filled}
use Rattle.findings.proofs.variants.fill_states.Goals as goal

pub returns-in_default-clause-states_filled : goal.returns-in_default-clause-states_filled
returns-in_default-clause-states_filled c = search states_unfilled

pub returns-clause-states_filled : goal.returns-clause-states_filled
returns-clause-states_filled c = search states_filled
