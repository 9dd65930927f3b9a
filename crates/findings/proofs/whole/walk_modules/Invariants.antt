-- What is written of the modules so far, and what is still to be written, make the whole.
use Prim.Native.Nat.{◌+◌, ◌*◌, ◌≤◌}
use Rattle.findings.proofs.WalkLaws.{Going}
use Rattle.findings.proofs.whole.walk_modules.Given as goal

abbrev pub invariant-loop-i : goal.invariant-loop-i
invariant-loop-i l = (l.count ≤ 16) × (l.errors ≤ l.n + 33295864 * l.i) × (l.warnings ≤ l.k + 33228540 * l.i) × Going l.doc l.at l.initial.out l.skip l.n l.initial.aside l.leave l.k l.count l.here l.i l.errors l.out l.warnings l.aside
