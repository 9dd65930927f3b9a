-- What the code tests before it reads a whole head, or looks a byte up in an alphabet: shortcuts, each shown to lead to the same answer.
use Rattle.std.specs.Prelude.{ℕ, ◌+◌, ◌-◌, ◌*◌, ◌≤◌, ◌≡◌, List, [], ◌∷◌, Bool, false, length, eqb, ltb, Option, Some, None}
use Rattle.reading.specs.Read.{ok, pick}
use Rattle.reading.specs.Skip.{skip_head}
use Rattle.reading.specs.declared.cursor.Cursor.{Cursor}

-- the first byte of a head that is that byte alone, of the major type that is due
unfoldable pub is_one_byte : ℕ → ℕ → Bool
is_one_byte due b = pick (ltb 6 due) false (pick (ltb b (due * 32)) false (ltb (b - due * 32) 24))

-- the head of a string that is not empty, in one byte
unfoldable pub name_head : ℕ → Bool
name_head b = pick (ltb b 97) false (ltb b 120)

-- the head of a data enum, in two bytes: an array that is not empty, and a case number
unfoldable pub tag_head : ℕ → ℕ → Bool
tag_head b case = pick (ltb b 129) false (pick (ltb b 152) (ltb case 24) false)

-- the name bytes among the 32 from 32 * row on, one bit each
unfoldable pub name_row : ℕ → ℕ
name_row row = pick (eqb row 1) 67043328 (pick (eqb row 2) 2281701374 (pick (eqb row 3) 134217726 0))

-- 1 where it holds, else 0; and of how many it holds
unfoldable pub tally : Bool → ℕ
tally b = pick b 1 0

unfoldable pub count : (ℕ → Bool) → List ℕ → ℕ
count p [] = 0
count p (x ∷ xs) = tally (p x) + count p xs

-- past an item: its whole head says the same, and the bytes after it can hold the items left
pub record Passes (more : ℕ) (s : List ℕ) (at items : ℕ) (c : Cursor) : Type 0 where
  pub head : skip_head more s at ≡ ok items c.at
  pub room : c.at + items ≤ length s

-- the same of what the code answers, where it is past it
unfoldable pub Passed : ℕ → List ℕ → ℕ → Option (ℕ × Cursor) → Type 0
Passed more s at (Some p) = Passes more s at p.0 p.1
Passed more s at None = Unit {0}
