-- What is left of the list decides.
use Prim.Native.Nat.{◌-◌}
use Rattle.reading.specs.Decl.{read_enum_decl}
use Rattle.typing.specs.First.{enum_name}
use Rattle.typing.proofs.FirstLaws.{Seeking}
use Rattle.typing.proofs.first.first_enum.Given as goal

abbrev pub invariant-loop : goal.invariant-loop
invariant-loop l = Seeking read_enum_decl enum_name l.doc l.name l.end l.initial.k (l.end - l.counter) l.k
