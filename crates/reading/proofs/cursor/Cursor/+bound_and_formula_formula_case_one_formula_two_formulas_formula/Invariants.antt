-- A formula's cycle of calls: the levels left fall at each formula; within one formula, the ranks of its parts. Each arm is the row of its number.
use Prim.Native.Nat.{◌+◌, ◌*◌}
use Rattle.reading.proofs.cursor.Cursor.+bound_and_formula_formula_case_one_formula_two_formulas_formula.Given as goal

abbrev pub decreases-bound_and_formula : goal.decreases-bound_and_formula
decreases-bound_and_formula l = 3 * l.left + 1

abbrev pub decreases-formula_case : goal.decreases-formula_case
decreases-formula_case l = 3 * l.left + 2

abbrev pub decreases-one_formula : goal.decreases-one_formula
decreases-one_formula l = 3 * l.left + 1

abbrev pub decreases-two_formulas : goal.decreases-two_formulas
decreases-two_formulas l = 3 * l.left + 1

abbrev pub decreases-formula : goal.decreases-formula
decreases-formula l = 3 * l.left + 0
