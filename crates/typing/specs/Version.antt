-- The format of a version string: X.Y or X.Y.Z.
use Rattle.std.specs.Prelude.{ℕ, List, [], ◌∷◌, Bool, true, false, length, get_or, ltb, eqb}
use Rattle.reading.specs.Read.{pick}

unfoldable pub is_digit : ℕ → Bool
is_digit b = pick (ltb b 48) false (ltb b 58)

unfoldable pub all_digits : List ℕ → Bool
all_digits [] = true
all_digits (b ∷ bs) = pick (is_digit b) (all_digits bs) false

-- a part: a digit at least, and nothing else
unfoldable pub is_part : List ℕ → Bool
is_part [] = false
is_part (b ∷ bs) = all_digits (b ∷ bs)

unfoldable pub all_parts : List (List ℕ) → Bool
all_parts [] = true
all_parts (p ∷ ps) = pick (is_part p) (all_parts ps) false

unfoldable pub onto : ℕ → List (List ℕ) → List (List ℕ)
onto b [] = (b ∷ []) ∷ []
onto b (p ∷ ps) = (b ∷ p) ∷ ps

-- split('.')
unfoldable pub split : List ℕ → List (List ℕ)
split [] = [] ∷ []
split (b ∷ bs) = pick (eqb b 46) ([] ∷ split bs) (onto b (split bs))

unfoldable pub two_or_three : ℕ → Bool
two_or_three n = pick (eqb n 2) true (eqb n 3)

-- is_valid_version_format
unfoldable pub is_valid_version_format : List ℕ → Bool
is_valid_version_format v = pick (two_or_three (length (split v))) (all_parts (split v)) false

-- the same from left to right: 0, 2 and 4 wait for the first digit of a part, 1, 3 and 5 stand in one, 6 is out
unfoldable pub after_dot : ℕ → ℕ
after_dot n = get_or (6 ∷ 2 ∷ 6 ∷ 4 ∷ []) n 6

unfoldable pub after_digit : ℕ → ℕ
after_digit n = get_or (1 ∷ 1 ∷ 3 ∷ 3 ∷ 5 ∷ 5 ∷ []) n 6

unfoldable pub next_version_state : ℕ → ℕ → ℕ
next_version_state n b = pick (eqb b 46) (after_dot n) (pick (is_digit b) (after_digit n) 6)

unfoldable pub is_end : ℕ → Bool
is_end n = pick (eqb n 3) true (eqb n 5)

unfoldable pub run : ℕ → List ℕ → Bool
run n [] = is_end n
run n (b ∷ bs) = run (next_version_state n b) bs
