-- Before each turn, the items left from here decide; each turn goes forward, inside the document.
use Prim.Native.Nat.{◌-◌}
use mathlib.Core.Path.{◌≡◌}
use lib.ListN.{length}
use Rattle.reading.specs.Skip.{skip_items}
use Rattle.reading.proofs.cursor.Cursor.skip_any.Given as goal

abbrev pub invariant-loop-left : goal.invariant-loop-left
invariant-loop-left l = skip_items l.left l.doc l.at ≡ skip_items l.initial.left l.doc l.initial.at

abbrev pub decreases-loop-left : goal.decreases-loop-left
decreases-loop-left l = length l.doc - l.at
