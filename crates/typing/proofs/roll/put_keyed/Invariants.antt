-- Each key leaves a roll.
use Rattle.typing.specs.Rolls.{PutsKeyed}
use Rattle.typing.proofs.roll.put_keyed.Given as goal

abbrev pub invariant-loop-key : goal.invariant-loop-key
invariant-loop-key l = PutsKeyed l.tagged l.doc l.first l.many l.initial.table l.q l.table
