-- The names from place k on decide; most are passed by their heads.
use Prim.Native.Nat.{◌-◌}
use mathlib.Core.Path.{◌≡◌}
use Rattle.typing.specs.Table.{member_from, member_at}
use Rattle.typing.proofs.table.has_name.Given as goal

abbrev pub invariant-loop : goal.invariant-loop
invariant-loop l = member_from (l.end - l.counter) l.doc l.k l.name ≡ member_at l.doc l.at l.name
