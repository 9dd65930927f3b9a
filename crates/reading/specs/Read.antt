-- What reading gives: the content and the place after it; or the first fault and its place.
use Rattle.std.specs.Prelude.{ℕ, List, Bool, true, false}
use Rattle.reading.specs.declared.fault.Fault.{Fault}

pub data Read (A : Type 0) : Type 0 where
  ok : A → ℕ → Read A
  refused : Fault → ℕ → Read A

-- how an item is read: from a document, at an offset
abbrev pub Reader : Type 0 → Type 0
Reader A = List ℕ → ℕ → Read A

unfoldable pub pick : {A : Type 0} → Bool → A → A → A
pick true a b = a
pick false a b = b

module _ {A B : Type 0} where
  -- what follows may depend on the content
  unfoldable pub bind : Read A → (A → ℕ → Read B) → Read B
  bind (ok a n) k = k a n
  bind (refused f p) k = refused f p

  unfoldable pub map_r : (A → B) → Read A → Read B
  map_r g (ok a n) = ok (g a) n
  map_r g (refused f p) = refused f p
