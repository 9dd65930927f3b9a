-- The names of the variables passed are gathered.
use Prim.Native.Nat.{◌≤◌}
use Rattle.findings.specs.Touch.{Gathered}
use Rattle.findings.proofs.once.gather.Given as goal

abbrev pub invariant-loop-k : goal.invariant-loop-k
invariant-loop-k l = (l.m ≤ l.k) × Gathered l.doc l.names l.k l.once l.m l.heads l.links
