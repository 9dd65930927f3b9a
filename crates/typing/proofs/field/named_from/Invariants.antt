-- What is left of the fields decides.
use Prim.Native.Nat.{◌-◌}
use mathlib.Core.Path.{◌≡◌}
use Rattle.typing.specs.Fields.{named_from}
use Rattle.typing.proofs.field.named_from.Given as goal

abbrev pub invariant-loop : goal.invariant-loop
invariant-loop l = named_from (l.fields - l.counter) l.doc l.k l.name ≡ named_from l.fields l.doc l.at l.name
