-- From the first item of the name's print on: the items before item i have other names.
use Rattle.typing.proofs.RollLaws.{Left}
use Rattle.typing.proofs.roll.roll_find.Given as goal

abbrev pub invariant-loop-i : goal.invariant-loop-i
invariant-loop-i l = Left l.tagged l.doc l.name l.table l.q l.i
