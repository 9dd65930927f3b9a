-- The words that are left decide; one whose marks have not the name's is passed over.
use Prim.Native.Nat.{◌+◌, ◌≤◌}
use mathlib.Core.Path.{◌≡◌}
use lib.ListN.{length}
use Rattle.typing.specs.Segments.{among}
use Rattle.typing.proofs.segments.in_words.Given as goal

abbrev pub invariant-loop-i : goal.invariant-loop-i
invariant-loop-i l = (l.q + l.i ≤ length l.table) × (among l.i l.doc l.name l.m l.table l.q ≡ among l.many l.doc l.name l.m l.table l.q)
