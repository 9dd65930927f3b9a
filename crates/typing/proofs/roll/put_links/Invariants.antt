-- Item by item: those before item i have their links.
use Rattle.typing.proofs.ChainLaws.{Putting}
use Rattle.typing.proofs.roll.put_links.Given as goal

abbrev pub invariant-loop-i : goal.invariant-loop-i
invariant-loop-i l = Putting l.initial.table l.o l.n l.hints l.nexts l.i l.table
