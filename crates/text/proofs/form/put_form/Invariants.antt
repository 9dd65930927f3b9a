-- What is still to put, once put, makes the whole.
use mathlib.Core.Path.{◌≡◌}
use Prim.Native.Nat.{ℕ, ◌+◌, ◌-◌, ◌*◌, ◌≤◌}
use mathlib.Core.List.{List, map}
use lib.ListN.{length, drop}
use Rattle.text.specs.Form.{format}
use Rattle.text.specs.Put.{Put}
use Rattle.text.specs.Said.{shown}
use Rattle.text.proofs.form.put_form.Given as goal

abbrev pub invariant-loop-i : goal.invariant-loop-i
invariant-loop-i l = (length l.args ≡ 5)
    × (l.i ≤ length l.form)
    × (l.n ≤ 5)
    × (l.k ≤ l.at + l.i + l.n * 0x8_0100)
    × ((r : ℕ) (o : List ℕ) → Put l.out l.k (format (drop l.i l.form) (map (shown l.doc) (drop l.n l.args))) r o → Put l.initial.out l.at (format l.form (map (shown l.doc) l.args)) r o)

abbrev pub decreases-loop-i : goal.decreases-loop-i
decreases-loop-i l = length l.form - l.i
