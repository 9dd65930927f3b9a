-- Each transition that is taken is followed.
use Prim.Native.Nat.{◌-◌, ◌≤◌}
use mathlib.Core.Path.{◌≡◌}
use lib.ListN.{length}
use Rattle.findings.specs.PairPromises.{LeadsOn}
use Rattle.findings.specs.Reaching.{BeginsAt}
use Rattle.findings.specs.Links.{Links, Heads}
use Rattle.findings.proofs.ReachLaws.{Following}
use Rattle.findings.proofs.walk.walk.Given as goal

abbrev pub invariant-loop-head : goal.invariant-loop-head
invariant-loop-head l = (l.tail ≤ 255) × (length l.heads ≡ 256) × Following (BeginsAt l.doc l.rows l.prints l.name) (LeadsOn l.doc l.rows l.prints l.count) l.count l.marks l.queue l.tail l.head × Links l.prints l.count l.links × Heads l.prints l.count l.heads l.marks

abbrev pub decreases-loop-head : goal.decreases-loop-head
decreases-loop-head l = 256 - l.head
