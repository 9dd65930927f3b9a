-- The names from place k on decide.
use Rattle.text.specs.Path.{reads}
use Rattle.reading.specs.Combine.{entries}
use Rattle.reading.specs.Text.{read_name}
use Prim.Native.Nat.{◌-◌}
use mathlib.Core.Path.{◌≡◌}
use Rattle.text.proofs.path.names_read.Given as goal

abbrev pub invariant-loop-i : goal.invariant-loop-i
invariant-loop-i l = reads (entries (l.count - l._i) read_name l.doc l.k) ≡ reads (entries l.count read_name l.doc l.place)
