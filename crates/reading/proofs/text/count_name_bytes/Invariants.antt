-- What is counted and what remains to count are what there is to count.
use Prim.Native.Nat.{◌≤◌, ◌+◌}
use mathlib.Core.Path.{◌≡◌}
use lib.ListN.{drop}
use Rattle.reading.specs.Text.{name_byte}
use Rattle.reading.specs.Short.{count}
use Rattle.reading.proofs.text.count_name_bytes.Given as goal

abbrev pub invariant-loop-b : goal.invariant-loop-b
invariant-loop-b l = (l.n ≤ l.b-index) × (l.n + count name_byte (drop l.b-index l.bytes) ≡ count name_byte l.bytes)
