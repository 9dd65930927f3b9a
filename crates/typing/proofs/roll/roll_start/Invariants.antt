-- Along the lane of the print: an item of the print is not before item h - 1.
use Prim.Native.Nat.{◌-◌}
use Rattle.typing.proofs.ChainLaws.{Leads}
use Rattle.typing.proofs.roll.roll_start.Given as goal

abbrev pub invariant-loop : goal.invariant-loop
invariant-loop l = Leads l.table l.o l.n l.p l.h (l.n - l.counter)
