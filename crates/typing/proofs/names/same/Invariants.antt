-- What is left of the names decides.
use Prim.Native.Nat.{◌*◌}
use mathlib.Core.Path.{◌≡◌}
use lib.ListN.{drop}
use Rattle.typing.specs.Names.{eq_name}
use Rattle.typing.proofs.names.same.Given as goal

abbrev pub invariant-loop-k : goal.invariant-loop-k
invariant-loop-k l = eq_name (drop (4 * l.k) l.a) (drop (4 * l.k) l.b) ≡ eq_name l.a l.b

abbrev pub invariant-loop-i : goal.invariant-loop-i
invariant-loop-i l = eq_name (drop l.i l.a) (drop l.i l.b) ≡ eq_name l.a l.b
