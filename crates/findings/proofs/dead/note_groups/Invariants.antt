-- Group by group.
use mathlib.Core.Path.{◌≡◌}
use Prim.Native.Nat.{◌+◌, ◌*◌, ◌≤◌}
use lib.ListN.{length}
use Rattle.findings.proofs.DeadLaws.{GroupsLeft}
use Rattle.findings.proofs.dead.note_groups.Given as goal

abbrev pub invariant-loop-g : goal.invariant-loop-g
invariant-loop-g l = (l.m ≤ l.n + 255 * l.g) × (length l.uses ≡ 510) × GroupsLeft l.doc l.owner l.initial.out l.skip l.n l.rows l.count l.groups l.many l.g l.m l.out
