-- A count that is made one more is at most 11.
use Rattle.typing.proofs.roll.is_dull.Given as goal

abbrev pub invariant-loop-i : goal.invariant-loop-i
invariant-loop-i l = Unit {0}
