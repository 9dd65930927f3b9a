-- The marks that are left decide.
use Prim.Native.Nat.{◌-◌}
use mathlib.Core.Path.{◌≡◌}
use Rattle.typing.specs.Segments.{marked}
use Rattle.typing.proofs.segments.is_marked.Given as goal

abbrev pub invariant-loop : goal.invariant-loop
invariant-loop l = marked (6 - l.counter) l.m l.rest ≡ marked 6 l.m l.marks
