-- What is still to be noted decides, formula by formula.
use Prim.Native.Nat.{◌+◌, ◌*◌, ◌/◌, ◌≤◌}
use mathlib.Core.Path.{◌≡◌}
use lib.ListN.{length}
use Rattle.findings.proofs.ClaimLaws.{Formulating}
use Rattle.findings.proofs.claims.note_formulas.Given as goal

abbrev pub invariant-loop-i : goal.invariant-loop-i
invariant-loop-i l = Formulating l.doc l.table l.names l.enums l.owner l.initial.out l.skip l.n l.i l.r l.out × (l.many ≡ length l.table / 2) × (l.r ≤ l.n + 2 * l.i)
