-- Each key leaves all names in the words.
use Prim.Native.Nat.{◌+◌, ◌/◌, ◌<◌, ◌≤◌}
use mathlib.Core.Bool.{true}
use lib.ListN.{length}
use Rattle.typing.specs.Segments.{FillsWords}
use Rattle.typing.proofs.segments.fill_keyed.Given as goal

abbrev pub invariant-loop-next : goal.invariant-loop-next
invariant-loop-next l = FillsWords l.key l.doc l.first l.many l.initial.table l.q true l.table × (l.key < 8) × (l.q + (l.many + 5) / 6 ≤ length l.table)
