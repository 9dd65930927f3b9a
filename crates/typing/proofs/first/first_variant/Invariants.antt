-- What is left of the list decides; most variants are passed by their heads.
use Prim.Native.Nat.{◌-◌}
use Rattle.reading.specs.Decl.{read_constructor_variant}
use Rattle.typing.specs.Patterns.{declared_name}
use Rattle.typing.proofs.FirstLaws.{Seeking}
use Rattle.typing.proofs.first.first_variant.Given as goal

abbrev pub invariant-loop : goal.invariant-loop
invariant-loop l = Seeking read_constructor_variant declared_name l.doc l.name l.end l.initial.k (l.end - l.counter) l.k
