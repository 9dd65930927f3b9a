-- Tables of places: of names and what is declared under each, as pairs of places in the document, one pair after the other.
-- A later pair of one name replaces the earlier.
use Rattle.std.specs.Prelude.{ℕ, zero, suc, ◌+◌, ◌*◌, ◌/◌, ◌<◌, ◌≤◌, ◌≡◌, List, [], ◌∷◌, Bool, true, false, length, get_or, eqb, Option as Maybe, Some, None}
use Rattle.std.proofs.Math.Option.{Option, none, some}
use Rattle.std.proofs.lemmas.List.Edits.{sets}
use Rattle.reading.specs.Read.{Read, ok, refused, pick}
use Rattle.reading.specs.Limits.{max_u32, max_list}
use Rattle.reading.specs.Items.{Items}
use Rattle.reading.specs.Item.{read_kind, read_number, read_count, read_tag}
use Rattle.reading.specs.Text.{Name}
use Rattle.reading.specs.Skip.{skip_items, text_at}
use Rattle.reading.specs.declared.item.Tag.{Tag}
use Rattle.typing.specs.Types.{ExprType, bool, bit, enum}
use Rattle.typing.specs.Names.{eq_name}

-- the place after the item at a place
unfoldable pub place_after : {A : Type 0} → Read A → ℕ
place_after (ok x n) = n
place_after (refused f p) = p

abbrev pub after_item : List ℕ → ℕ → ℕ
after_item s at = place_after (skip_items 1 s at)

-- r is the place after the item at a place of a document, which is made of bytes
pub record Past (s : List ℕ) (at r : ℕ) : Type 0 where
  pub is : r ≡ after_item s at
  pub each : (i : ℕ) → get_or s i 0 < 256

-- the item at a place ends inside the document
pub record Ended (s : List ℕ) (at end : ℕ) : Type 0 where
  pub item : Items s 1 at end
  pub room : end ≤ length s

-- where it ends, if that is told
unfoldable pub Stops : List ℕ → ℕ → Maybe ℕ → Type 0
Stops s at (Some end) = Ended s at end
Stops s at None = Unit {0}

-- the same of a text that is another than the name
unfoldable pub Differs : List ℕ → ℕ → Name → Maybe ℕ → Type 0
Differs s at w (Some end) = Ended s at end × (eq_name (text_at s at) w ≡ false)
Differs s at w None = Unit {0}

-- the place after the head of the record at a place
abbrev pub after_head : List ℕ → ℕ → ℕ
after_head s at = place_after (read_kind 4 s at)

-- the place after the head of the data enum at a place
abbrev pub after_tag : List ℕ → ℕ → ℕ
after_tag s at = place_after (read_tag s at)

-- the table of as many records from a place on: each one's name and what follows the name
unfoldable pub pairs_from : ℕ → List ℕ → ℕ → List ℕ
pairs_from zero s at = []
pairs_from (suc k) s at = after_head s at ∷ (after_item s (after_head s at) ∷ pairs_from k s (after_item s at))

unfoldable pub pairs_of : List ℕ → Read ℕ → List ℕ
pairs_of s (ok count first) = pairs_from count s first
pairs_of s (refused f p) = []

-- the table of the list at a place
unfoldable pub pairs_at : List ℕ → ℕ → List ℕ
pairs_at s at = pairs_of s (read_count max_list s at)

-- a table is filled from its start on: the words past it keep their contents, and what does not fit is left out
pub record Filled (table pairs : List ℕ) (r : ℕ) (table' : List ℕ) : Type 0 where
  pub many : r ≡ length pairs
  pub words : table' ≡ sets table 0 pairs

-- what stands under a name in the first k pairs
unfoldable pub find_first : List ℕ → Name → List ℕ → ℕ → Option ℕ
find_first s n table zero = none
find_first s n table (suc k) =
    pick (eq_name (text_at s (get_or table (2 * k) 0)) n) (some (get_or table (2 * k + 1) 0)) (find_first s n table k)

-- in all pairs of a list
abbrev pub last_in : List ℕ → Name → List ℕ → Option ℕ
last_in s n pairs = find_first s n pairs (length pairs / 2)

unfoldable pub found : Option ℕ → Maybe ℕ
found none = None
found (some at) = Some at

-- the declared type at a place; bool where none stands there
unfoldable pub width_type : Read ℕ → ExprType
width_type (ok w n) = bit w
width_type (refused f p) = bool

unfoldable pub case_type : List ℕ → Read Tag → ExprType
case_type s (ok t n) =
    pick (eqb t.case 1) (width_type (read_number max_u32 s n))
    (pick (eqb t.case 2) (enum (text_at s n)) bool)
case_type s (refused f p) = bool

unfoldable pub expr_type_at : List ℕ → ℕ → ExprType
expr_type_at s at = case_type s (read_tag s at)

-- whether one of so many names from a place on is the name
unfoldable pub member_from : ℕ → List ℕ → ℕ → Name → Bool
member_from zero s at n = false
member_from (suc k) s at n = pick (eq_name (text_at s at) n) true (member_from k s (after_item s at) n)

unfoldable pub member_of : List ℕ → Read ℕ → Name → Bool
member_of s (ok c first) n = member_from c s first n
member_of s (refused f p) n = false

-- whether the list of names at a place has the name
unfoldable pub member_at : List ℕ → ℕ → Name → Bool
member_at s at n = member_of s (read_count max_list s at) n

unfoldable pub type_found : List ℕ → Option ℕ → Option ExprType
type_found s none = none
type_found s (some at) = some (expr_type_at s at)

unfoldable pub variant_found : List ℕ → Name → Option ℕ → Bool
variant_found s n none = false
variant_found s n (some at) = member_at s at n
