-- A formula's typing: the levels left fall at each formula inside it.
use Prim.Native.Nat.{◌+◌, ◌*◌}
use Rattle.typing.proofs.temporal.+type_bounded_type_formula_type_two.Given as goal

abbrev pub decreases-type_bounded : goal.decreases-type_bounded
decreases-type_bounded l = 2 * l.depth + 1

abbrev pub decreases-type_formula : goal.decreases-type_formula
decreases-type_formula l = 2 * l.depth

abbrev pub decreases-type_two : goal.decreases-type_two
decreases-type_two l = 2 * l.depth + 1
