-- What is near stands where the module has it, and the table has the names that are bound.
use Rattle.reading.specs.Limits.{max_list}
use Rattle.text.specs.Near.{Kept}
use Rattle.text.specs.Bound.{BoundTo}
use Rattle.offercheck.proofs.module.print_lines.Given as goal

abbrev pub invariant-loop-i : goal.invariant-loop-i
invariant-loop-i l =
    Kept max_list l.module.doc.now l.near
    × BoundTo l.module.doc.now l.module.places.now l.module.rows.now l.table l.bound
