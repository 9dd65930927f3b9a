-- What the code answers, for what reading gives; and what document 01 says of each answer: number and place.
use Rattle.std.specs.Prelude.{ℕ, zero, suc, ◌+◌, List, Bool, get_or, eqb, Option, Some, None, Result, Ok, Err}
use Rattle.reading.specs.Read.{Read, ok, refused, pick}
use Rattle.reading.specs.Fault.{number}
use Rattle.reading.specs.Item.{read_count}
use Rattle.reading.specs.Combine.{sized}
use Rattle.reading.specs.Text.{name_byte, version_byte}
use Rattle.reading.specs.declared.cursor.Cursor.{Cursor}
use Rattle.reading.specs.declared.fault.Fault.{Fault}
use Rattle.reading.specs.declared.fault.Refusal.{Refusal}
use Rattle.reading.specs.declared.item.Tag.{Tag}
use Rattle.reading.specs.declared.text.Text.{Text}
use Rattle.reading.specs.declared.text.Text.TheVariants as text

-- a fault at a place
abbrev pub refusal : Fault → ℕ → Refusal
refusal f p = record { fault = f; place = p }

module _ {A : Type 0} where
  -- what is read, and the cursor after it
  unfoldable pub answer : Read A → Result (A × Cursor) Refusal
  answer (ok a n) = Ok (a, record { at = n })
  answer (refused f p) = Err (refusal f p)

  -- where it ends alone
  unfoldable pub stands : Read A → Result Cursor Refusal
  stands (ok a n) = Ok (record { at = n })
  stands (refused f p) = Err (refusal f p)

  -- a whole document
  unfoldable pub verdict : Read A → Result (Unit {0}) Refusal
  verdict (ok a n) = Ok tt
  verdict (refused f p) = Err (refusal f p)

-- document 01's number of a verdict, 0 where it accepts, and its place
unfoldable pub number_of : Result (Unit {0}) Refusal → ℕ
number_of (Ok u) = 0
number_of (Err r) = number r.fault

unfoldable pub place_of : Result (Unit {0}) Refusal → ℕ
place_of (Ok u) = 0
place_of (Err r) = r.place

-- where an item of a kind ends
abbrev pub Ends : Type 0
Ends = List ℕ → ℕ → Result Cursor Refusal

-- on from a cursor, if there is one
unfoldable pub and_then : Result Cursor Refusal → (Cursor → Result Cursor Refusal) → Result Cursor Refusal
and_then (Ok c) k = k c
and_then (Err r) k = Err r

-- as many items of a kind
unfoldable pub entries_end : ℕ → Ends → Ends
entries_end zero e s at = Ok (record { at = at })
entries_end (suc n) e s at = and_then (e s at) λ c. entries_end n e s c.at

-- a list of at most limit of them
unfoldable pub list_from : Result (ℕ × Cursor) Refusal → Ends → List ℕ → Result Cursor Refusal
list_from (Ok p) e s = entries_end p.0 e s p.1.at
list_from (Err r) e s = Err r

unfoldable pub list_ends : ℕ → Ends → Ends
list_ends limit e s at = list_from (answer (read_count limit s at)) e s

-- past null, if it stands there
unfoldable pub past_null : List ℕ → ℕ → Option Cursor
past_null s at = pick (eqb (get_or s at 0) 246) (Some (record { at = at + 1 })) None

-- so, or past an item
unfoldable pub optional_from : Option Cursor → Result Cursor Refusal → Result Cursor Refusal
optional_from (Some c) r = Ok c
optional_from None r = r

unfoldable pub optional_ends : Ends → Ends
optional_ends e s at = optional_from (past_null s at) (e s at)

-- an item, after the case number of an array of two items
unfoldable pub one_ends : Ends → Tag → Ends
one_ends e t s at = and_then (stands (sized t 2 (ok (tt {0}) at))) λ c. e s c.at

-- a name has a byte at least
unfoldable pub least_of : Text → ℕ
least_of text.Name = 1
least_of text.Version = 0

unfoldable pub alphabet_of : Text → ℕ → Bool
alphabet_of text.Name = name_byte
alphabet_of text.Version = version_byte
