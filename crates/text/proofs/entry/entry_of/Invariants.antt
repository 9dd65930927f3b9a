-- What is still to be passed from the start makes, with what stands before it, all that stands before entry k.
use Prim.Native.Nat.{◌-◌}
use mathlib.Core.Path.{◌≡◌}
use Rattle.text.specs.Says.{passed}
use Rattle.text.proofs.entry.entry_of.Given as goal

abbrev pub invariant-loop-i : goal.invariant-loop-i
invariant-loop-i l = passed (l.k - l._i) l.doc l.here ≡ passed (l.k - l.initial._i) l.doc l.initial.here
