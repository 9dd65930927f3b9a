-- Item by item: those before item i are put, and it stands at place k.
use Rattle.typing.proofs.RollLaws.{Listing}
use Rattle.typing.proofs.roll.put_items.Given as goal

abbrev pub invariant-loop-i : goal.invariant-loop-i
invariant-loop-i l = Listing l.tagged l.doc l.key l.first l.many l.initial.table l.q l.i l.k l.table
