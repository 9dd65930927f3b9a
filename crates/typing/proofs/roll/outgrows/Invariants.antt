-- The words so far, and 511 for each group that is left, are few.
use Prim.Native.Nat.{◌+◌, ◌*◌, ◌≤◌, ◌-◌}
use Rattle.typing.proofs.roll.outgrows.Given as goal

abbrev pub invariant-loop : goal.invariant-loop
invariant-loop l = l.words + 511 * (l.end - l.counter) ≤ 130816
