-- What a walk over a module leaves: notes are written as findings of that module.
use Rattle.std.specs.Prelude.{ℕ, List, [], ◌∷◌, map, cond, eqb}
use Rattle.findings.specs.Finding.{Note, note, in_module}
use Rattle.findings.specs.Sheet.{Written}

-- the notes xs of a module, the first of them finding number n
pub record Noted (owner : ℕ) (o : List ℕ) (skip n : ℕ) (xs : List Note) (r : ℕ) (o' : List ℕ) : Type 0 where
  pub written : Written o skip n (map (in_module owner) xs) r o'

-- a note where the cause's number is not 0
unfoldable pub numbered : ℕ → ℕ → ℕ → ℕ → List Note
numbered site first second c = cond (eqb c 0) [] (note site first second c ∷ [])
