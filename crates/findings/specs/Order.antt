-- Names in byte order, each once.
use Rattle.std.specs.Prelude.{ℕ, zero, suc, List, [], ◌∷◌, Bool, true, false, cond, ◌&&◌, ◌||◌, eqb, ltb}
use Rattle.reading.specs.Text.{Name}
use Rattle.typing.specs.Names.{eq_name}

-- byte by byte; a name comes before those that go on after it
unfoldable pub earlier : Name → Name → Bool
earlier [] [] = false
earlier [] (y ∷ ys) = true
earlier (x ∷ xs) [] = false
earlier (x ∷ xs) (y ∷ ys) = ltb x y || eqb x y && earlier xs ys

abbrev pub least : Name → List Name → Name
least s [] = s
least s (x ∷ xs) = least (cond (earlier x s) x s) xs

abbrev pub without : Name → List Name → List Name
without s [] = []
without s (x ∷ xs) = cond (eq_name s x) (without s xs) (x ∷ without s xs)

-- "least state name not yet done", at most k times
abbrev pub ordered : ℕ → List Name → List Name
ordered zero ns = []
ordered (suc k) [] = []
ordered (suc k) (x ∷ xs) = least x xs ∷ ordered k (without (least x xs) (x ∷ xs))
