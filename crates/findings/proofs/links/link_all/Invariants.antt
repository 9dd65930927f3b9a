-- The last one first: those from a place on are linked.
use Prim.Native.Nat.{◌≤◌}
use mathlib.Core.Path.{◌≡◌}
use lib.ListN.{length}
use Rattle.findings.specs.Links.{Linked}
use Rattle.findings.proofs.links.link_all.Given as goal

abbrev pub invariant-loop-i : goal.invariant-loop-i
invariant-loop-i l = (l.count ≤ 255) × (length l.initial.heads ≡ 256) × (length l.heads ≡ 256) × (length l.links ≡ 256) × Linked l.prints l.count l.i l.heads l.links
