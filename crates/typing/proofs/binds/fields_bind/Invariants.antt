-- What is left of them decides.
use Prim.Native.Nat.{◌-◌}
use Rattle.reading.specs.Pattern.{read_pattern_field}
use Rattle.typing.specs.Formulas.{fields_bind}
use Rattle.typing.proofs.EntryLaws.{Scanning}
use Rattle.typing.proofs.binds.fields_bind.Given as goal

abbrev pub invariant-loop : goal.invariant-loop
invariant-loop l = Scanning read_pattern_field fields_bind l.doc l.fields l.at (l.fields - l.counter) l.k
