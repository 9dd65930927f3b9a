-- By where the pattern and the groups of events stand.
use Rattle.findings.proofs.TransitionLaws.{judged_at}
use Rattle.findings.proofs.transition.bind_pattern.Goals as goal

pub returns-clause-judges_pattern : goal.returns-clause-judges_pattern
returns-clause-judges_pattern c = search judged_at
