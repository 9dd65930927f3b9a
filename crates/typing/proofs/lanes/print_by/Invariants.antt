-- The print so far, and then of what is left, is that of the whole.
use Prim.Native.Nat.{◌*◌}
use mathlib.Core.Path.{◌≡◌}
use lib.ListN.{drop}
use Rattle.typing.specs.Lanes.{print_by}
use Rattle.typing.proofs.lanes.print_by.Given as goal

abbrev pub invariant-loop-k : goal.invariant-loop-k
invariant-loop-k l = print_by l.f l.p (drop (4 * l.k) l.bytes) ≡ print_by l.f l.h l.bytes

abbrev pub invariant-loop-i : goal.invariant-loop-i
invariant-loop-i l = print_by l.f l.p (drop l.i l.bytes) ≡ print_by l.f l.h l.bytes
