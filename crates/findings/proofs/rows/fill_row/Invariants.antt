-- What is still to come, put from the next word on, makes the whole row.
use Prim.Native.Nat.{◌+◌, ◌-◌}
use Rattle.findings.proofs.RowLaws.{RowLeft}
use Rattle.findings.proofs.rows.fill_row.Given as goal

abbrev pub invariant-loop-f : goal.invariant-loop-f
invariant-loop-f l = RowLeft l.doc l.fields l.at l.initial.table l.j (l.fields - l.f) l.k (l.j + l.f) l.table
