-- What is put so far, and what is left, is the whole.
use Prim.Native.Nat.{◌-◌, ◌*◌}
use Rattle.typing.proofs.SegmentLaws.{Filling}
use Rattle.typing.proofs.segments.fill_words.Given as goal

abbrev pub invariant-loop-j : goal.invariant-loop-j
invariant-loop-j l = Filling l.key l.doc l.first l.many l.initial.table l.q l.j l.k (l.many - 6 * l.j) l.table
