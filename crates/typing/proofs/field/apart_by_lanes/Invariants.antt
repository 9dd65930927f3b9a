-- The names of the fields passed are those of the table, and no two are the same.
use Rattle.typing.proofs.ApartLaws.{Gathered}
use Rattle.typing.proofs.field.apart_by_lanes.Given as goal

abbrev pub invariant-loop-i : goal.invariant-loop-i
invariant-loop-i l = Gathered l.doc l.at l.i l.k l.names l.m l.heads l.links
