-- Names: when two are equal, and what is declared under one.
use Rattle.std.specs.Prelude.{List, [], ◌∷◌, Bool, true, false, eqb}
use Rattle.std.proofs.Math.Option.{Option, none, some}
use Rattle.reading.specs.Read.{pick}
use Rattle.reading.specs.Text.{Name}
use Rattle.typing.specs.Causes.{first_of}

unfoldable pub eq_name : Name → Name → Bool
eq_name [] [] = true
eq_name [] (y ∷ ys) = false
eq_name (x ∷ xs) [] = false
eq_name (x ∷ xs) (y ∷ ys) = pick (eqb x y) (eq_name xs ys) false

unfoldable pub member : Name → List Name → Bool
member n [] = false
member n (x ∷ xs) = pick (eq_name x n) true (member n xs)

-- "state" and "State"
abbrev pub state_word : Name
state_word = 115 ∷ 116 ∷ 97 ∷ 116 ∷ 101 ∷ []

abbrev pub state_enum : Name
state_enum = 83 ∷ 116 ∷ 97 ∷ 116 ∷ 101 ∷ []

module _ {A : Type 0} (name : A → Name) (n : Name) where
  -- x, where it has the name
  unfoldable pub called : A → Option A
  called x = pick (eq_name (name x) n) (some x) none

  -- the first of a name
  unfoldable pub first_called : List A → Option A
  first_called [] = none
  first_called (x ∷ xs) = first_of (called x) (first_called xs)

  -- the last of a name: "a later variable or enum of one name replaces the earlier"
  unfoldable pub last_called : List A → Option A
  last_called [] = none
  last_called (x ∷ xs) = first_of (last_called xs) (called x)
