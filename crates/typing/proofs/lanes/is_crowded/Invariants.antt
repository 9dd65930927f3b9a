-- Each turn has one pair less to pass.
use Rattle.typing.proofs.lanes.is_crowded.Given as goal

abbrev pub invariant-loop : goal.invariant-loop
invariant-loop l = Unit {0}
