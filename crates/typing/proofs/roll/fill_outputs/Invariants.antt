-- Group by group: those before are through.
use Rattle.typing.proofs.FillLaws.{Rolling}
use Rattle.typing.proofs.roll.fill_outputs.Given as goal

abbrev pub invariant-loop-k : goal.invariant-loop-k
invariant-loop-k l = Rolling l.doc l.initial.table l.n l.k l.q l.table
