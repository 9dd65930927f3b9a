-- From the last item on: item i and later ones are linked.
use Rattle.typing.proofs.ChainLaws.{Linking}
use Rattle.typing.proofs.roll.link_items.Given as goal

abbrev pub invariant-loop-i : goal.invariant-loop-i
invariant-loop-i l = Linking l.table l.o l.n l.i l.hints l.nexts
