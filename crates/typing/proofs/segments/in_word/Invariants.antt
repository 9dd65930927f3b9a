-- The names that are left of the word decide.
use Prim.Native.Nat.{◌-◌}
use mathlib.Core.Path.{◌≡◌}
use Rattle.typing.specs.Segments.{named_by, word_has}
use Rattle.typing.proofs.segments.in_word.Given as goal

abbrev pub invariant-loop : goal.invariant-loop
invariant-loop l = named_by (6 - l.counter) l.doc l.name l.m l.rest l.at ≡ word_has l.doc l.name l.m l.w
