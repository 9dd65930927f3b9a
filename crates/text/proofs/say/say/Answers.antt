-- By site: the table's words of the variables are the names.
use native.Mathlib.Omega.{arith}
use Rattle.text.proofs.SayLaws.{says_below, says_own, says_above}
use Rattle.text.proofs.say.say.Goals as goal
use Rattle.text.proofs.say.say.Goals.{in_default-via-then-site-lt6, in_default-via-else-site-lt6+else-site-lt14}

pub returns-in-6-to-13-clause-says : goal.returns-in-6-to-13-clause-says
returns-in-6-to-13-clause-says c = says_own _ _ _ _ _ _ _ _ _ _ _ (omega arith) (omega arith) c.say_own.ensures.says_own

pub returns-in_default-clause-says : goal.returns-in_default-clause-says
returns-in_default-clause-says c =
    elim c.in_default.branch [
      | in_default-via-then-site-lt6 w ↦ says_below _ _ _ _ _ _ _ _ _ _ _ c.say_plain.ensures (omega arith)
      | in_default-via-else-site-lt6+else-site-lt14 w ↦ says_above _ _ _ _ _ _ _ _ _ _ _ c.say_plain.ensures (omega arith)
    ]
