-- By whether the transition was judged last.
use Rattle.text.proofs.JudgedLaws.{sees_judged, bound_kept}
use Rattle.text.proofs.judged.names_of.Goals as goal

pub returns-in-Some-clause-sees_names : goal.returns-in-Some-clause-sees_names
returns-in-Some-clause-sees_names c = search bound_kept

pub returns-in_default-clause-sees_names : goal.returns-in_default-clause-sees_names
returns-in_default-clause-sees_names c = search sees_judged
