-- The names of a path, one after another in the document.
use Rattle.std.specs.Prelude.{ℕ, zero, suc, Bool, true, false, List, [], ◌∷◌}
use Rattle.reading.specs.Read.{Read, ok, refused}
use Rattle.reading.specs.Text.{Name, read_name}
use Rattle.reading.specs.Skip.{text_at}
use Rattle.typing.specs.Table.{place_after}

-- whether reading gives something
unfoldable pub reads : {A : Type 0} → Read A → Bool
reads (ok x n) = true
reads (refused f p) = false

-- the strings at as many places, the first of them given, each after the name before it
unfoldable pub names_from : ℕ → List ℕ → ℕ → List Name
names_from zero s k = []
names_from (suc n) s k = text_at s k ∷ names_from n s (place_after (read_name s k))
