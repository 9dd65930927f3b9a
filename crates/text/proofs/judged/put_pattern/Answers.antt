-- What is wrong with it, and the names that it binds.
use mathlib.Core.Path.{refl}
use Rattle.text.specs.Message.{site_form}
use Rattle.text.proofs.ListedLaws.{row_form}
use Rattle.text.proofs.JudgedLaws.{bound_judged}
use Rattle.text.proofs.BlamedLaws.{pattern_put}
use Rattle.text.proofs.judged.put_pattern.Goals as goal

pub put_row-end-requires-clause-row_form : goal.put_row-end-requires-clause-row_form
unfolding site_form
put_row-end-requires-clause-row_form c = row_form 8 _ refl refl

pub returns-clause-by_index : goal.returns-clause-by_index
returns-clause-by_index c = λ enums j. search pattern_put

pub returns-clause-bound_to : goal.returns-clause-bound_to
returns-clause-bound_to c = search bound_judged
