-- Group by group.
use mathlib.Core.Path.{◌≡◌}
use Prim.Native.Nat.{◌/◌, ◌≤◌}
use lib.ListN.{length}
use Rattle.typing.proofs.GroupLaws.{GroupsLeft}
use Rattle.typing.proofs.first.first_variants.Given as goal

abbrev pub invariant-loop-k : goal.invariant-loop-k
invariant-loop-k l = (l.k ≤ l.count) × (l.count ≡ length l.groups / 2) × GroupsLeft l.doc l.groups l.name l.k
