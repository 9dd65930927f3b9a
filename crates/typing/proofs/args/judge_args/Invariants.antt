-- What is left of both lists decides.
use Prim.Native.Nat.{◌-◌}
use Rattle.typing.proofs.EmitLaws.{Judging}
use Rattle.typing.specs.Blocks.{env_at}
use Rattle.typing.proofs.args.judge_args.Given as goal

abbrev pub invariant-loop : goal.invariant-loop
invariant-loop l = Judging (env_at l.doc l.names l.enums) l.doc l.at l.fields l.count (l.count - l.counter) l.k l.f
