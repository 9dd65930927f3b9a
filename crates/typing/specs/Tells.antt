-- What is told of whatever reads at a place.
use Rattle.std.specs.Prelude.{ℕ, ◌≡◌}
use Rattle.reading.specs.Read.{Read, ok}

pub record Tells {A : Type 0} (m : Read A) (P : A → ℕ → Type 0) : Type 0 where
  pub of : (x : A) (n : ℕ) → m ≡ ok x n → P x n

-- k is where it ends
abbrev pub Ends : {A : Type 0} → Read A → ℕ → Type 0
Ends m k = Tells m (λ x n. k ≡ n)
