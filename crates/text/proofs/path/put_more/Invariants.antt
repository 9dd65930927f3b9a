-- What is still to put, once put, makes the whole.
use Prim.Native.Nat.{ℕ, ◌+◌, ◌-◌, ◌*◌, ◌≤◌}
use mathlib.Core.List.{List}
use Rattle.text.specs.Put.{Put}
use Rattle.text.specs.Shown.{more_names}
use Rattle.text.specs.Path.{names_from}
use Rattle.text.proofs.path.put_more.Given as goal

abbrev pub invariant-loop-i : goal.invariant-loop-i
invariant-loop-i l = (l.k ≤ l.at + l._i * 0x1_0003)
    × ((r : ℕ) (o : List ℕ) → Put l.out l.k (more_names (names_from (l.count - l._i) l.doc l.p)) r o → Put l.initial.out l.at (more_names (names_from l.count l.doc l.place)) r o)
