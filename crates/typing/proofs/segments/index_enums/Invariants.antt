-- Pair by pair: those before are through.
use Rattle.typing.proofs.SegmentLaws.{Indexing}
use Rattle.typing.proofs.segments.index_enums.Given as goal

abbrev pub invariant-loop-i : goal.invariant-loop-i
invariant-loop-i l = Indexing l.doc l.initial.table l.n l.i l.q l.table
