-- What is still to come, put from word j on, makes the whole table.
use Prim.Native.Nat.{◌-◌}
use Rattle.typing.proofs.TableLaws.{Filling}
use Rattle.typing.proofs.fill.fill_table.Given as goal

abbrev pub invariant-loop : goal.invariant-loop
invariant-loop l = Filling l.doc l.at l.initial.table (l.end - l.counter) l.k l.j l.table
