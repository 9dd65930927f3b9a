-- Functions on lists that the findings are made of.
use Rattle.std.specs.Prelude.{ℕ, suc, List, [], ◌∷◌, ◌++◌, Bool, false, ◌||◌}

-- an element with its place
pub record Placed (A : Type 0) : Type 0 where
  pub place : ℕ
  pub item : A

module _ {A : Type 0} where
  -- the elements with their places, which count from k
  abbrev pub placed : ℕ → List A → List (Placed A)
  placed k [] = []
  placed k (x ∷ xs) = record { place = k; item = x } ∷ placed (suc k) xs

  abbrev pub any : (A → Bool) → List A → Bool
  any p [] = false
  any p (x ∷ xs) = p x || any p xs

module _ {A B : Type 0} where
  -- what f gives for each element, one after another
  abbrev pub each : (A → List B) → List A → List B
  each f [] = []
  each f (x ∷ xs) = f x ++ each f xs

  -- what f gives for each two elements, an earlier and a later
  abbrev pub each_pair : (A → A → List B) → List A → List B
  each_pair f [] = []
  each_pair f (x ∷ xs) = each (f x) xs ++ each_pair f xs
