-- What is left of the names decides.
use mathlib.Core.Path.{◌≡◌}
use lib.ListN.{drop}
use Rattle.findings.specs.Order.{earlier}
use Rattle.findings.proofs.order.earlier.Given as goal

abbrev pub invariant-loop-i : goal.invariant-loop-i
invariant-loop-i l = earlier (drop l.i l.a) (drop l.i l.b) ≡ earlier l.a l.b
