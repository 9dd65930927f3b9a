-- A long guard by the one pass, where the table has room; any other from its first clash with itself. What is said to stand between start
use Prim.Native.Nat.{◌-◌}
use Rattle.typing.proofs.guard.+contradictory_equalities.Given as goal

abbrev pub decreases-contradictory_equalities : goal.decreases-contradictory_equalities
decreases-contradictory_equalities l = l.end - l.at
